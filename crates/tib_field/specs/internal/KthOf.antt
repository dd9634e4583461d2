-- The k-th field of a reading, and what the private functions `find` return for it.
use Rattle.std.specs.Prelude.{ℕ, List}
use Rattle.std.proofs.Math.Option.{Option, none, some}
use Rattle.std.proofs.Math.ListN.{get_elem?}
use Rattle.reading.specs.Reading.{Reading, accepted, refused}

-- The k-th field of a reading; none where the reading refuses.
unfoldable pub kth_of : {A B : Type 0} → (A → List (ℕ × B)) → ℕ → Reading A → Option (ℕ × B)
kth_of fields k (accepted x) = get_elem? (fields x) k
kth_of fields k (refused refusal place) = none

-- The place and the sizes of a field, or that there is none.
unfoldable pub found_of : {A Z K : Type 0} → (A → Z) → (ℕ → Z → K) → K → Option (ℕ × A) → K
found_of sizes at absent none = absent
found_of sizes at absent (some f) = at f.0 (sizes f.1)
