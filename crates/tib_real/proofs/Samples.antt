-- Samples: that of document 01, a not-a-number, and what lies at the limits.
use Rattle.std.proofs.Common.{◌≡◌, true, false, [], ◌∷◌, pos, refl}
use lib.Count.{count_leading_zeros}
use Rattle.octets.specs.Number.{big_endian}
use Rattle.tib_real.specs.Parts.{negative, exponent, fraction, finite, significand, units}
use Rattle.tib_real.specs.Widened.{packed, normalized, widened}
use Rattle.tib_real.specs.FromOctets.{with_bits, real_of}
use Rattle.tib_real.specs.WholeNumber.{hint_within, signed, accepted, refused}
use Rattle.tib_real.specs.InFractions.{scaled, countable, in_fractions, fractions_of}

-- 3.25 with the hint 2.
pub sample : fractions_of (real_of (0x40 ∷ 0x0a ∷ 0 ∷ 0 ∷ 0 ∷ 0 ∷ 0 ∷ 0 ∷ []) 2 true) ≡ accepted (pos 13)
unfolding fractions_of hint_within real_of with_bits big_endian in_fractions countable scaled signed negative exponent fraction finite significand units
sample = refl

-- A not-a-number of four octets.
pub moved_up : (real_of (0x7f ∷ 0x80 ∷ 0 ∷ 1 ∷ []) 0 false).bits ≡ 0x7ff0000020000000
unfolding real_of with_bits big_endian widened packed negative exponent fraction
moved_up = refl

-- The smallest of four octets, minus zero, and 2 ^ 52 with the hint 1.
pub smallest : widened 1 ≡ 0x36a0000000000000
unfolding widened normalized packed negative exponent fraction count_leading_zeros
smallest = refl

pub minus_zero : in_fractions 0x8000000000000000 1 ≡ accepted (pos 0)
unfolding in_fractions countable scaled signed negative exponent fraction finite significand units
minus_zero = refl

pub limit : in_fractions 0x4330000000000000 1 ≡ refused
unfolding in_fractions countable scaled signed negative exponent fraction finite significand units
limit = refl
