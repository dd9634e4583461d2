-- The k-th field of a message, from 0, over what a format says of a field. `fields` gives the fields of a division with the places where
-- they begin.
use Rattle.std.specs.Prelude.{ℕ, List}
use Rattle.std.proofs.Math.Option.{Option, none, some}
use Rattle.std.proofs.Math.ListN.{get_elem?}
use Rattle.reading.specs.Reading.{Reading, accepted, refused}
use Rattle.reading.specs.Refusals as refusals

-- The field at its place as `shown` describes it, or the refusal `absent` where there is none. `refuse` gives a refusal at a place.
unfoldable pub field_or_absent : {B F : Type 0} → (ℕ → ℕ → F) → (ℕ → B → F) → Option (ℕ × B) → F
field_or_absent refuse shown none = refuse refusals.absent 0
field_or_absent refuse shown (some f) = shown f.0 f.1

-- The k-th field of a message, by the reading of the message.
unfoldable pub field_of : {A B F : Type 0} → (ℕ → ℕ → F) → (ℕ → B → F) → (A → List (ℕ × B)) → ℕ → Reading A → F
field_of refuse shown fields k (accepted x) = field_or_absent refuse shown (get_elem? (fields x) k)
field_of refuse shown fields k (refused refusal place) = refuse refusal place
