-- What an answer says of the k-th field of a QForm message.
use Rattle.std.specs.Prelude.{ℕ, ◌+◌, ◌≤◌, ◌<◌, ◌≡◌, List, length}
use Rattle.std.proofs.Math.Option.{some}
use Rattle.reading.specs.Refusals as refusals
use Rattle.tib_field.specs.Fields.{joined, KthField}
use Rattle.tib_field.specs.Stands.{Stands}
use Rattle.tib_dictionary.specs.Entry.{find}
use Rattle.tib_dictionary.specs.declared.Entry.{Entry}
use Rattle.tib_qform_field.specs.Layout.{Parts, octets, fid_of}
use Rattle.tib_qform.specs.declared.types.FieldAnswer.{FieldAnswer}
use Rattle.tib_qform.specs.CheckAndField.{refused_field}

-- An answer tells the k-th of these fields: the one with k fields before it. Its type and the length of its data are those of the dictionary's entry
-- for its fid, and its data stand at the place that the answer gives, after the two octets of the FID.
pub record KthTold (es : List Entry) (s : List ℕ) (fs : List Parts) (k : ℕ) (r : FieldAnswer) : Type 0 where
  pub kth : KthField fs k
  pub accepted : r.refusal ≡ 0
  pub nowhere : r.place ≡ 0
  pub numbered : r.fid ≡ fid_of kth.field
  pub entry : Entry
  pub known : find es (fid_of kth.field) ≡ some entry
  pub typed : r.kind ≡ entry.kind
  pub sized : r.data_length ≡ entry.size
  pub contents : Stands s kth.field.contents r.data_place r.data_length
  pub data_at : r.data_place ≡ 8 + length (joined octets kth.before) + 2

-- The answer for k is the k-th of the fields, or 18 at 0 where there are no more than k.
abbrev pub IsKth : List Entry → List ℕ → List Parts → ℕ → FieldAnswer → Type 0
IsKth es s fs k r = (k < length fs → KthTold es s fs k r) × (length fs ≤ k → r ≡ refused_field refusals.absent 0)
