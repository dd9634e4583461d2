-- Samples of reals in decimals: that of document 02, ties, reals next to a tie, and what lies at the limits.
use Rattle.std.specs.Prelude.{ℕ, ◌+◌, ◌^◌, true, List, [], ◌∷◌, ◌++◌, pos, neg_ℤ}
use Rattle.tib_real.specs.declared.types.WholeNumber.{WholeNumber}
use Rattle.tib_real.specs.FromOctets.{with_bits}
use Rattle.tib_real.specs.Widened.{widened}
use Rattle.tib_real.specs.WholeNumber.{refused, accepted}
use Rattle.tib_decimals.specs.InDecimals.{decimals_of}

-- The bits of a real, its hint, and the answer.
pub record Sample : Type 0 where
  pub bits : ℕ
  pub hint : ℕ
  pub expected : WholeNumber

abbrev real : ℕ → ℕ → WholeNumber → Sample
real b h a = record { bits = b; hint = h; expected = a }

-- 1.125 in thousandths. In hundredths it is a tie, and so is its negative: the even number is given.
unfoldable pub one_and_an_eighth : List Sample
one_and_an_eighth =
    real 0x3ff2000000000000 19 (accepted (pos 1125)) ∷
    real 0x3ff2000000000000 18 (accepted (pos 112)) ∷
    real 0xbff2000000000000 18 (accepted (neg_ℤ (pos 112))) ∷
    []

-- Ties up and down: 0.25 and 0.75 in tenths.
unfoldable pub ties : List Sample
ties =
    real 0x3fd0000000000000 17 (accepted (pos 2)) ∷
    real 0x3fe8000000000000 17 (accepted (pos 8)) ∷
    real 0xbfe8000000000000 17 (accepted (neg_ℤ (pos 8))) ∷
    []

-- Reals next to a tie: 2.675 in hundredths, where the product of floats would be 267.5; 0.35 and 0.45 in tenths.
unfoldable pub near_ties : List Sample
near_ties =
    real 0x4005666666666666 18 (accepted (pos 267)) ∷
    real 0x3fd6666666666666 17 (accepted (pos 3)) ∷
    real 0x3fdccccccccccccd 17 (accepted (pos 5)) ∷
    []

-- A real of four octets near 0.1, in billionths.
unfoldable pub four_octets : List Sample
four_octets =
    real (widened 0x3dcccccd) 25 (accepted (pos 100000001)) ∷
    []

-- Between -1 and 1: -0.96, -0.075 and -0.04 in tenths. There is one zero, also for minus zero; subnormals give it too.
unfoldable pub around_zero : List Sample
around_zero =
    real 0xbfeeb851eb851eb8 17 (accepted (neg_ℤ (pos 10))) ∷
    real 0xbfb3333333333333 17 (accepted (neg_ℤ (pos 1))) ∷
    real 0xbfa47ae147ae147b 17 (accepted (pos 0)) ∷
    real 0x8000000000000000 17 (accepted (pos 0)) ∷
    real 0x0000000000000001 25 (accepted (pos 0)) ∷
    real 0x800fffffffffffff 25 (accepted (pos 0)) ∷
    []

-- The limits of 64 bits.
unfoldable pub limits : List Sample
limits =
    real 0x430a36e2eb1c432c 20 (accepted (pos 9223372036854775000)) ∷
    real 0x430a36e2eb1c432d 20 refused ∷
    real 0xc30a36e2eb1c432c 20 (accepted (neg_ℤ (pos 9223372036854775000))) ∷
    real 0xc30a36e2eb1c432d 20 refused ∷
    []

-- Infinities and a not-a-number.
unfoldable pub no_numbers : List Sample
no_numbers =
    real 0x7ff0000000000000 17 refused ∷
    real 0xfff0000000000000 17 refused ∷
    real 0x7ff8000000000000 17 refused ∷
    []

-- Other hints.
unfoldable pub other_hints : List Sample
other_hints =
    real 0x3ff0000000000000 16 refused ∷
    real 0x3ff0000000000000 26 refused ∷
    real 0x3ff0000000000000 (2 ^ 32 + 17) refused ∷
    []

unfoldable pub samples : List Sample
samples = one_and_an_eighth ++ ties ++ near_ties ++ four_octets ++ around_zero ++ limits ++ no_numbers ++ other_hints

-- The answers to the samples of a list, and those expected.
unfoldable pub answers : List Sample → List WholeNumber
answers [] = []
answers (x ∷ l) = decimals_of (with_bits x.bits x.hint true) ∷ answers l

unfoldable pub expectations : List Sample → List WholeNumber
expectations [] = []
expectations (x ∷ l) = x.expected ∷ expectations l
