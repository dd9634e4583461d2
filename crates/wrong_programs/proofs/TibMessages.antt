-- Messages of TibMsg and TibrvMsg, of few octets.
use Prim.Native.Nat.{ℕ, suc, ◌+◌}
use mathlib.Core.List.{List, [], ◌∷◌, ◌++◌}
use mathlib.Core.Path.{◌≡◌}
use mathlib.Core.Bool.{Bool}
use lib.ListN.{length}
use lib.Dec.{T}
use Rattle.wrong_programs.specs.Kinds.{Given}
use Rattle.wrong_programs.specs.Tib.{Format, tibmsg, tibrv}
use Rattle.wrong_programs.proofs.RulingOut.{Sample, given}

-- A sample for each format.
module _ {A B : Type 0} {fits : A → Bool} (right : Format → Given fits → B) (value : Format → A) (answer : Format → B)
    (m : T (fits (value tibmsg))) (r : T (fits (value tibrv)))
    (of-m : right tibmsg (record { value = value tibmsg; in_range = m }) ≡ answer tibmsg)
    (of-r : right tibrv (record { value = value tibrv; in_range = r }) ≡ answer tibrv) where
  pub in_range_lem : (f : Format) → T (fits (value f))
  in_range_lem tibmsg = m
  in_range_lem tibrv = r

  pub fixed : (f : Format) → right f (record { value = value f; in_range = in_range_lem f }) ≡ answer f
  unfolding in_range_lem
  fixed tibmsg = of-m
  fixed tibrv = of-r

  abbrev pub both : (f : Format) → Sample (right f)
  both f = given (value f) (answer f) (in_range_lem f) (fixed f)

-- A header before the octets of fields.
unfoldable pub message : Format → List ℕ → List ℕ
message tibmsg s = 0xce ∷ 0x13 ∷ 0xaa ∷ 0x1f ∷ 1 ∷ 0 ∷ 0 ∷ 0 ∷ length s ∷ s
message tibrv s = 0 ∷ 0 ∷ 0 ∷ (8 + length s) ∷ 0x99 ∷ 0x55 ∷ 0xee ∷ 0xaa ∷ s

-- The type of a string, and a string with no name.
unfoldable pub string_type : Format → ℕ
string_type tibmsg = 2
string_type tibrv = 8

unfoldable pub string : Format → List ℕ → List ℕ
string tibmsg s = 0 ∷ 2 ∷ length s ∷ s
string tibrv s = 0 ∷ 8 ∷ suc (length s) ∷ s

-- Two messages of one length.
unfoldable pub one_field : Format → List ℕ
unfolding message string
one_field f = message f (string f (0x61 ∷ 0x62 ∷ 0x63 ∷ []))

unfoldable pub two_fields : Format → List ℕ
unfolding message string
two_fields f = message f (string f [] ++ string f [])

-- The place of the first field.
unfoldable pub first : Format → ℕ
first tibmsg = 9
first tibrv = 8

-- A message that ends inside the name of its field.
unfoldable pub cut_name : Format → List ℕ
unfolding message
cut_name f = message f (2 ∷ 0x61 ∷ [])
