-- What the private function `find` returns, and how it reads a field that is known to be good.
use Rattle.std.specs.Prelude.{ℕ, ◌+◌, ◌≡◌, cond, ◌||◌, List, get_or, eqb, Option as Optional, Some, None}
use Rattle.std.proofs.Math.Option.{Option}
use Rattle.tib_field.specs.internal.KthOf.{found_of}
use Rattle.tib_msg_field.specs.declared.Sizes.{Sizes}
use Rattle.tib_msg_field.specs.Layout.{kind, hinted, Parts}
use Rattle.tib_field.specs.Steps.{Over}
use Rattle.tib_msg_field.specs.Reading.{next_field}
use Rattle.tib_msg_field.specs.internal.Sizes.{sizes}

-- The place and the sizes of a field,
abbrev pub at : ℕ → Sizes → Optional (ℕ × Sizes)
at place z = Some (place, z)

-- or none.
abbrev pub found_at : Option (ℕ × Parts) → Optional (ℕ × Sizes)
found_at = found_of sizes at None

-- A field stands at the front of octets.
abbrev pub HasField : List ℕ → Type 0
HasField s = (z : Sizes) × (next_field s ≡ Over z)

-- The octets of a good hint at the front of octets, by the field's type octet.
unfoldable pub hint_octets : ℕ → List ℕ → ℕ
hint_octets c s = cond (hinted c) (cond (eqb (kind c) 8 || eqb (kind c) 9) 2 (2 + get_or s 1 0)) 0
