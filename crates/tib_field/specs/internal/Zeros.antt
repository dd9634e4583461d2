-- The search for the zero that ends a name.
use Rattle.std.specs.Prelude.{ℕ, ◌≤◌, ◌<◌, ◌≡◌, Bool, true, false, List, get_or}
use Rattle.tib_field.specs.Name.{name_step, NameStep, End, Fault, Sized}

-- The refusal of the name at the front of octets, 0 where it is accepted.
unfoldable pub fault_of : NameStep → ℕ
fault_of End = 0
fault_of (Fault k) = k
fault_of (Sized n) = 0

unfoldable pub name_fault : List ℕ → ℕ
name_fault s = fault_of (name_step s)

-- Whether a zero stands at a place from a on that is below both b and n: one does, or none.
unfoldable pub ZeroIn : Bool → List ℕ → ℕ → ℕ → ℕ → Type 0
ZeroIn true s a b n = (j : ℕ) × (a ≤ j) × (j < b) × (j < n) × (get_or s j 0 ≡ 0)
ZeroIn false s a b n = (j : ℕ) → a ≤ j → j < b → j < n → get_or s j 0 ≡ 0 → ⊥
