-- What is wrong with a field from its name on, without saying how it is read, over what a format says of the octets after a name.
use Rattle.std.specs.Prelude.{ℕ, ◌<◌, List, ◌∷◌, ◌++◌, length}
use Rattle.reading.specs.Refusals as refusals
use Rattle.tib_field.specs.Name.{Name}

-- The refusal, and the octets from the size of the name on to the end of the message: the name ends too early; it is no name; or
-- what follows it is wrong.
pub data WrongNamed (After : ℕ → List ℕ → Type 0) : ℕ → List ℕ → Type 0 where
  name_cut : (n : ℕ) (s : List ℕ) → length s < n → WrongNamed After refusals.cut (n ∷ s)
  name_bad : (name s : List ℕ) → (Name name → ⊥) → WrongNamed After refusals.name (length name ∷ (name ++ s))
  named : (k : ℕ) (name s : List ℕ) → Name name → After k s → WrongNamed After k (length name ∷ (name ++ s))
