-- The samples hold.
use Prim.Native.Nat.{ℕ}
use mathlib.Core.Path.{◌≡◌, refl}
use mathlib.Core.Bool.{false}
use Rattle.tib_real.specs.Parts.{negative, exponent, fraction, finite, significand, units}
use Rattle.tib_real.specs.FromOctets.{with_bits}
use Rattle.tib_real.specs.Widened.{packed, widened}
use Rattle.tib_real.specs.WholeNumber.{hint_within, signed, refused}
use Rattle.tib_decimals.specs.Nearest.{nearest}
use Rattle.tib_decimals.specs.InDecimals.{scaled, rounded, in_range, answer, in_decimals, decimals_of}
use Rattle.tib_decimals.specs.Samples.{one_and_an_eighth, ties, near_ties, four_octets, around_zero, limits, no_numbers, other_hints, samples, answers, expectations}

pub samples_hold : answers samples ≡ expectations samples
unfolding answers expectations samples one_and_an_eighth ties near_ties four_octets around_zero limits no_numbers other_hints decimals_of hint_within with_bits in_decimals answer in_range rounded nearest scaled signed negative
    exponent fraction finite significand units widened packed
samples_hold = refl

-- A real without a hint, whatever number stands in its place.
pub no_hint : (bits number : ℕ) → decimals_of (with_bits bits number false) ≡ refused
unfolding decimals_of hint_within with_bits
no_hint bits number = refl
