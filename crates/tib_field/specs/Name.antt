-- The name of a field: no octets, or octets of which the last is zero and all others are not.
use Rattle.std.specs.Prelude.{ℕ, ◌+◌, ◌≡◌, Bool, true, false, cond, List, [], ◌∷◌, ◌++◌, length, take, drop, eqb, ltb}
use Rattle.reading.specs.Refusals as refusals

-- No octet is zero.
unfoldable pub NoZero : List ℕ → Type 0
NoZero [] = Unit {0}
NoZero (x ∷ s) = (x ≡ 0 → ⊥) × NoZero s

-- Octets that are a name.
pub data Name : List ℕ → Type 0 where
  none : Name []
  closed : (s : List ℕ) → NoZero s → Name (s ++ (0 ∷ []))

-- Whether the first zero of octets is their last octet.
unfoldable pub closes : List ℕ → Bool
closes [] = false
closes (x ∷ s) = cond (eqb x 0) (eqb (length s) 0) (closes s)

-- Whether octets are a name, computed.
unfoldable pub named : List ℕ → Bool
named [] = true
named (x ∷ s) = closes (x ∷ s)

-- What is found where a field may begin: the end of the message, a bad name with its refusal, or a name of this many octets after the octet of its
-- size.
pub data NameStep : Type 0 where
  End : NameStep
  Fault : ℕ → NameStep
  Sized : ℕ → NameStep

-- The size of a name and the name at the front of octets: a missing octet is refused before a bad one.
unfoldable pub name_step : List ℕ → NameStep
name_step [] = End
name_step (n ∷ s) = cond (ltb (length s) n) (Fault refusals.cut) (cond (named (take n s)) (Sized n) (Fault refusals.name))

-- What stands at the front of octets, where `after` says what follows a name of this many octets.
unfoldable pub after_name : {A : Type 0} → A → (ℕ → A) → (ℕ → List ℕ → A) → List ℕ → NameStep → A
after_name done fault after s End = done
after_name done fault after s (Fault k) = fault k
after_name done fault after s (Sized n) = after n (drop (1 + n) s)
