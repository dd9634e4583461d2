-- Masks that note single tags, each by its order.
use Rattle.std.specs.Prelude.{ℕ, ◌≡◌, Bool, true, List}
use Rattle.table.specs.Mask.{has_bit}
use Rattle.message.specs.Single.{among}

-- A mask notes just the single ones of some tags.
unfoldable pub Notes : (ℕ → Bool) → (ℕ → ℕ) → List ℕ → ℕ → Type 0
Notes single order tags mask = (tag : ℕ) → single tag ≡ true → has_bit mask (order tag) ≡ among tag tags
