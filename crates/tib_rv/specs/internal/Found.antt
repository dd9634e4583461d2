-- What the private functions `find`, `sizes_at` and `shown` return.
use Rattle.std.specs.Prelude.{ℕ, ◌+◌, false, ◌≡◌, List, Option as Optional, Some, None}
use Rattle.std.proofs.Math.Option.{Option, none, some}
use Rattle.tib_field.specs.declared.FieldAnswer.{FieldAnswer}
use Rattle.tib_field.specs.Refused.{no_real}
use Rattle.tib_rv_field.specs.declared.Sizes.{Sizes}
use Rattle.tib_field.specs.internal.KthOf.{found_of}
use Rattle.tib_rv_field.specs.Layout.{Parts}
use Rattle.tib_rv_field.specs.Reading.{Step, Done, Fault, Over, Into, next_field, lead}
use Rattle.tib_rv_field.specs.internal.Sizes.{sizes}

-- The place and the sizes of a field,
abbrev pub at : ℕ → Sizes → Optional (ℕ × Sizes)
at place z = Some (place, z)

-- or none.
abbrev pub found_at : Option (ℕ × Parts) → Optional (ℕ × Sizes)
found_at = found_of sizes at None

-- The field that a step finds, of either kind.
unfoldable pub any_field : Step → Option Sizes
any_field Done = none
any_field (Fault refusal) = none
any_field (Over z) = some z
any_field (Into z) = some z

-- A field stands at the front of octets.
abbrev pub HasField : List ℕ → Type 0
HasField s = (z : Sizes) × (any_field (next_field s) ≡ some z)

-- The answer for a field of these sizes that begins at a place.
unfoldable pub shown_sizes : ℕ → Sizes → FieldAnswer
shown_sizes at z =
    record {
      refusal = 0;
      place = 0;
      name_place = at + 1;
      name_length = z.name;
      kind = z.octet;
      data_place = at + lead z;
      data_length = z.contents;
      hinted = false;
      hint_kind = 0;
      hint = 0;
      real = no_real;
    }
