-- What shifts and masks take from bits, and which bits are a not-a-number's.
use Rattle.std.proofs.Common.{◌≡◌, ℕ, ◌+◌, ◌*◌, ◌/◌, ◌%◌, ◌^◌, ◌<◌, ◌≤◌, Bool, true, false, cond, not, ◌&&◌, T, leb, sym, refl, ◌∙◌, arith, le-ltb, lt-ltb, ne_eqb, leb-false, leb-true}
use lib.Bits.{bit_and, and_mask}
use lib.Pow.{field}
use lib.Ieee.{Float, nan, inf, fin, binary32, binary64, div, is_nan, nan_bits, fits, of_bits}
use lib.Ieee.Bits.{nan_bits_is, nan_bits_above, of_bits-fits}
use lib.Ieee.Fits.{and_i, fits_widens}
use Rattle.tib_real.specs.Parts.{four, eight, negative, exponent, fraction}
use Rattle.tib_real.specs.Widened.{packed, widened}
use Rattle.tib_real.proofs.Flags.{not-false}
use Rattle.tib_real.proofs.Widening.{widened_no_number}

pub four_exponent : (b : ℕ) → bit_and (b / 2 ^ 23) 255 ≡ exponent four b
unfolding exponent
four_exponent b = and_mask (b / 2 ^ 23) 8 ∙ sym (field b 8 23)

pub eight_exponent : (b : ℕ) → bit_and (b / 2 ^ 52) 2047 ≡ exponent eight b
unfolding exponent
eight_exponent b = and_mask (b / 2 ^ 52) 11 ∙ sym (field b 11 52)

-- ---- not-a-numbers

is_nan_lem : (x : Float) → is_nan x ≡ true → x ≡ nan
unfolding is_nan
is_nan_lem nan e = refl
is_nan_lem (inf s) e = let z : ◌≡◌ {A = ℕ} 0 1 = cc in absurd (omega arith)
is_nan_lem (fin s m k) e = let z : ◌≡◌ {A = ℕ} 0 1 = cc in absurd (omega arith)

-- The division of zero by zero has no result.
no_result : div binary64 (of_bits binary64 0) (of_bits binary64 0) ≡ nan
unfolding div of_bits
no_result = refl

pub above_infinity : (b : ℕ) → 0x7ff0000000000000 < bit_and b 0x7fffffffffffffff → div binary64 (of_bits binary64 0) (of_bits binary64 0) ≡ of_bits binary64 b
above_infinity b h =
    let k = rw (and_mask b 63) at h in
    no_result ∙ sym (is_nan_lem (of_bits binary64 b) (sym (nan_bits_is binary64 b) ∙ nan_bits_above binary64 b ∙ lt-ltb 0x7ff0000000000000 (b % 2 ^ 63) k))

pub not_above_infinity : (b : ℕ) → bit_and b 0x7fffffffffffffff ≤ 0x7ff0000000000000 → T (not (nan_bits binary64 b))
not_above_infinity b h =
    let k = rw (and_mask b 63) at h in
    not-false (nan_bits binary64 b) (nan_bits_above binary64 b ∙ le-ltb 0x7ff0000000000000 (b % 2 ^ 63) k)

pub eight_number : (b : ℕ) → (exponent eight b ≡ 2047 → ⊥) → T (not (nan_bits binary64 b))
unfolding exponent nan_bits
eight_number b h = rw (ne_eqb (b % 2 ^ 63 / 2 ^ 52) 2047 h) tt

pub four_number : (b : ℕ) → (exponent four b ≡ 255 → ⊥) → T (not (nan_bits binary32 b))
unfolding exponent nan_bits
four_number b h = rw (ne_eqb (b % 2 ^ 31 / 2 ^ 23) 255 h) tt

pub four_value_number : (b : ℕ) → (exponent four b ≡ 255 → ⊥) → T (not (is_nan (of_bits binary32 b)))
four_value_number b h = rw (nan_bits_is binary32 b) at (four_number b h)

pub four_fits_eight : (b : ℕ) → (exponent four b ≡ 255 → ⊥) → T (fits binary64 (of_bits binary32 b) && not (is_nan (of_bits binary32 b)))
four_fits_eight b h = and_i (fits binary64 (of_bits binary32 b)) (not (is_nan (of_bits binary32 b))) (fits_widens (of_bits binary32 b) (of_bits-fits binary32 b)) (four_value_number b h)

-- ---- the bits moved

-- What the machine makes of the sign, the exponent of ones alone and the fraction.
abbrev pub moved : ℕ → ℕ
moved b = b / 2 ^ 31 * 2 ^ 63 % 2 ^ 64 + 0x7ff0000000000000 + bit_and b 0x7fffff * 2 ^ 29 % 2 ^ 64

sign_bit : (b : ℕ) → b < 2 ^ 32 → b / 2 ^ 31 * 2 ^ 63 % 2 ^ 64 ≡ cond (negative four b) (2 ^ 63) 0
unfolding negative
sign_bit b h = go (leb (2 ^ 31) b) refl
  where
    go : (t : Bool) → leb (2 ^ 31) b ≡ t → b / 2 ^ 31 * 2 ^ 63 % 2 ^ 64 ≡ cond t (2 ^ 63) 0
    go true e = let k = leb-true (2 ^ 31) b e in omega arith
    go false e = let k = leb-false (2 ^ 31) b e in omega arith

moved_is : (b : ℕ) → b < 2 ^ 32 → moved b ≡ packed (negative four b) 2047 (fraction four b * 2 ^ 29)
unfolding packed fraction
moved_is b h = rw (sign_bit b h, and_mask b 23) (omega arith)

pub moved_widened : (b : ℕ) → b < 2 ^ 32 → exponent four b ≡ 255 → moved b ≡ widened b
moved_widened b h e = moved_is b h ∙ sym (widened_no_number b e)
