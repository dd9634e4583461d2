-- Reals read in decimals, in exact arithmetic on whole numbers.
use Rattle.std.specs.Prelude.{ℕ, ◌*◌, ◌-◌, ◌^◌, Bool, true, false, cond, leb, ltb}
use Rattle.tib_real.specs.declared.types.Real.{Real}
use Rattle.tib_real.specs.declared.types.WholeNumber.{WholeNumber}
use Rattle.tib_real.specs.Parts.{eight, negative, finite, units}
use Rattle.tib_real.specs.WholeNumber.{hint_within, signed, refused, accepted}
use Rattle.tib_decimals.specs.Nearest.{nearest}

-- The size of x times 10 ^ k, where b are the bits of x: this whole number over 2 ^ 1074.
unfoldable pub scaled : ℕ → ℕ → ℕ
scaled b k = units eight b * 10 ^ k

-- The size of the whole number nearest to x times 10 ^ k.
unfoldable pub rounded : ℕ → ℕ → ℕ
rounded b k = nearest (scaled b k) (2 ^ 1074)

-- Whether signed 64 bits hold the number with this sign, set or not, and this size.
unfoldable pub in_range : Bool → ℕ → Bool
in_range true n = leb n (2 ^ 63)
in_range false n = ltb n (2 ^ 63)

-- The answer with this sign and this size.
unfoldable pub answer : Bool → ℕ → WholeNumber
answer minus n = cond (in_range minus n) (accepted (signed minus n)) refused

-- Bits read in decimals, with k digits after the point.
unfoldable pub in_decimals : ℕ → ℕ → WholeNumber
in_decimals b k = cond (finite eight b) (answer (negative eight b) (rounded b k)) refused

-- A real read in decimals: it has a hint, from 17 to 25. Only the bits count, even where a caller passes a value that they do not encode.
unfoldable pub decimals_of : Real → WholeNumber
decimals_of r = cond (hint_within 17 25 r) (in_decimals r.bits (r.hint - 16)) refused
