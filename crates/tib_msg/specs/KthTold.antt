-- What an answer says of the k-th field of a TibMsg message.
use Rattle.std.specs.Prelude.{ℕ, ◌+◌, ◌≡◌, Bool, true, false, List, [], ◌∷◌, length}
use Rattle.octets.specs.Number.{big_endian}
use Rattle.tib_field.specs.declared.FieldAnswer.{FieldAnswer}
use Rattle.tib_field.specs.Fields.{joined, KthField}
use Rattle.tib_field.specs.Stands.{Stands}
use Rattle.tib_msg_field.specs.Layout.{kind, Parts, octets}
use Rattle.tib_msg.specs.CheckAndField.{real_shown}

-- Whether a field has a hint, the hint's type and its number, by the hint's octets. The number of an array's hint and of a partial's is the
-- octet after the type; in any other hint a size stands there, and the number, big-endian, after it. Without a hint both are 0.
pub data HintTold (kind : ℕ) : List ℕ → Bool → ℕ → ℕ → Type 0 where
  absent : HintTold kind [] false 0 0
  element : (t n : ℕ) → kind ≡ 8 → HintTold kind (t ∷ n ∷ []) true t n
  offset : (n : ℕ) → kind ≡ 9 → HintTold kind (6 ∷ n ∷ []) true 6 n
  amount : (t : ℕ) (s : List ℕ) → (kind ≡ 8 → ⊥) → (kind ≡ 9 → ⊥) → HintTold kind (t ∷ length s ∷ s) true t (big_endian s)

-- An answer tells the k-th of these fields: the one with k fields before it. Its name, with the closing zero, and its data stand at the
-- places that the answer gives; the octet before the name is its size, and the type octet and the data's size are between name and data.
pub record KthTold (s : List ℕ) (fs : List Parts) (k : ℕ) (r : FieldAnswer) : Type 0 where
  pub kth : KthField fs k
  pub accepted : r.refusal ≡ 0
  pub nowhere : r.place ≡ 0
  pub name : Stands s kth.field.name r.name_place r.name_length
  pub typed : r.kind ≡ kind kth.field.octet
  pub contents : Stands s kth.field.contents r.data_place r.data_length
  pub hint : HintTold r.kind kth.field.hint r.hinted r.hint_kind r.hint
  pub real : r.real ≡ real_shown r.kind kth.field.contents r.hint r.hinted
  pub named_at : r.name_place ≡ 9 + length (joined octets kth.before) + 1
  pub data_at : r.data_place ≡ r.name_place + r.name_length + 1 + length kth.field.size
