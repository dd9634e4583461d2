-- What an answer says of the k-th field of a TibrvMsg message.
use Rattle.std.specs.Prelude.{ℕ, ◌+◌, ◌≡◌, false, List, length}
use Rattle.tib_field.specs.Refused.{no_real}
use Rattle.tib_field.specs.declared.FieldAnswer.{FieldAnswer}
use Rattle.tib_field.specs.Fields.{joined as joinedParts, KthField}
use Rattle.tib_field.specs.Stands.{Stands}
use Rattle.tib_rv_field.specs.Layout.{octets, Fields, Whole}
use Rattle.tib_rv.specs.CheckAndField.{outermost}

-- An answer tells the k-th outermost field of a division: the one with k outermost fields before it. Its name, with the closing zero, and
-- its data stand at the places that the answer gives; the octet before the name is its size, and the type octet and the data's size are
-- between name and data. The data of type 1 are a whole message, from its size octets on.
pub record KthTold (s : List ℕ) (fields : Fields) (k : ℕ) (r : FieldAnswer) : Type 0 where
  pub kth : KthField (outermost fields) k
  pub accepted : r.refusal ≡ 0
  pub nowhere : r.place ≡ 0
  pub name : Stands s kth.field.name r.name_place r.name_length
  pub typed : r.kind ≡ kth.field.octet
  pub contents : Stands s kth.field.contents r.data_place r.data_length
  pub message : r.kind ≡ 1 → (inside : Fields) × Whole kth.field.contents inside
  pub no_hint : (r.hinted ≡ false) × (r.hint_kind ≡ 0) × (r.hint ≡ 0)
  pub real : r.real ≡ no_real
  pub named_at : r.name_place ≡ 8 + length (joinedParts octets kth.before) + 1
  pub data_at : r.data_place ≡ r.name_place + r.name_length + 1 + length kth.field.size
