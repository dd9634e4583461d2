-- Reals read in fractions, in exact arithmetic on whole numbers.
use Rattle.std.specs.Prelude.{ℕ, ◌*◌, ◌/◌, ◌%◌, ◌^◌, Bool, cond, ◌&&◌, ◌==◌, nat_lt}
use Rattle.tib_real.specs.declared.types.Real.{Real}
use Rattle.tib_real.specs.declared.types.WholeNumber.{WholeNumber}
use Rattle.tib_real.specs.Parts.{eight, negative, finite, units}
use Rattle.tib_real.specs.WholeNumber.{hint_within, signed, refused, accepted}

-- The size of x times 2 ^ h, where b are the bits of x: this whole number over 2 ^ 1074.
unfoldable pub scaled : ℕ → ℕ → ℕ
scaled b h = units eight b * 2 ^ h

-- Whether x times 2 ^ h is whole and below 2 ^ 53 in size.
unfoldable pub countable : ℕ → ℕ → Bool
countable b h = finite eight b && scaled b h % 2 ^ 1074 == 0 && nat_lt (scaled b h / 2 ^ 1074) (2 ^ 53)

-- Bits read in fractions with any hint h.
unfoldable pub in_fractions : ℕ → ℕ → WholeNumber
in_fractions b h = cond (countable b h) (accepted (signed (negative eight b) (scaled b h / 2 ^ 1074))) refused

-- A real read in fractions: it has a hint, from 1 to 8. Only the bits count, even where a caller passes a value that they do not encode.
unfoldable pub fractions_of : Real → WholeNumber
fractions_of r = cond (hint_within 1 8 r) (in_fractions r.bits r.hint) refused
