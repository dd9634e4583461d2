-- Fields that stand one after the other, over what a format says of a field and the function that gives its octets.
use Rattle.std.specs.Prelude.{ℕ, ◌+◌, ◌≡◌, List, [], ◌∷◌, ◌++◌, length}

-- P holds of each field.
unfoldable pub Each : {A : Type 0} → (A → Type 0) → List A → Type 0
Each P [] = Unit {0}
Each P (f ∷ fs) = P f × Each P fs

-- P holds of each field after those before it: of the first after `before`, of the next after these and the first, and so on.
unfoldable pub EachAfter : {A : Type 0} → (List A → A → Type 0) → List A → List A → Type 0
EachAfter P before [] = Unit {0}
EachAfter P before (f ∷ fs) = P before f × EachAfter P (before ++ (f ∷ [])) fs

-- The octets of the fields.
unfoldable pub joined : {A : Type 0} → (A → List ℕ) → List A → List ℕ
joined octets [] = []
joined octets (f ∷ fs) = octets f ++ joined octets fs

-- The fields with the places where they begin: the first at a place, each next after the octets of the one before.
unfoldable pub placed : {A : Type 0} → (A → List ℕ) → ℕ → List A → List (ℕ × A)
placed octets at [] = []
placed octets at (f ∷ fs) = (at, f) ∷ placed octets (at + length (octets f)) fs

-- The k-th of these fields, from 0: the one with k fields before it.
pub record KthField {A : Type 0} (fs : List A) (k : ℕ) : Type 0 where
  pub before : List A
  pub field : A
  pub after : List A
  pub divides : fs ≡ before ++ (field ∷ after)
  pub counted : length before ≡ k
