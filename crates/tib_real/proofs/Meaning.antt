-- The logic's own reading of bits gives the number that the definitions of this crate say.
use Rattle.std.proofs.Common.{◌≡◌, ℕ, zero, suc, ◌+◌, ◌-◌, ◌*◌, ◌^◌, ◌<◌, Bool, true, cond, eqb, subst, lt_irrefl, arith, ltb-true, eq-eqb, ne_eqb}
use lib.Dec.{eqb-suc-zero}
use lib.Ieee.{nan, inf, Format, binary32, binary64, prec, low, hid, ones, of_fields, of_bits}
use lib.Ieee.Exact.{HasValue, odd_sign}
use Rattle.tib_real.specs.Parts.{four, eight, negative, exponent, fraction, finite, significand, units}

one_less : (x : ℕ) → suc x - 1 ≡ x
one_less x = omega arith

-- A sign, an exponent that is not all ones, and a fraction.
fields_value : (f : Format) (s : Bool) (x t : ℕ) → x < ones f
    → HasValue (of_fields f s x t) s (cond (eqb x 0) t (hid f + t) * 2 ^ (x - 1)) (2 ^ low f)
unfolding of_fields
fields_value f s zero t h = odd_sign (prec f) s t 0 (low f)
fields_value f s (suc x) t h =
    rw (ne_eqb (suc x) (ones f) (λ e. lt_irrefl (ones f) (subst (λ (n : ℕ). n < ones f) e h)), eqb-suc-zero x, one_less x)
    (odd_sign (prec f) s (hid f + t) x (low f))

-- An exponent of ones alone.
fields_top : (f : Format) (s : Bool) (x t : ℕ) → x ≡ ones f → of_fields f s x t ≡ cond (eqb t 0) (inf s) nan
unfolding of_fields
fields_top f s zero t h = absurd (omega arith)
fields_top f s (suc x) t h = rw (eq-eqb (suc x) (ones f) h)

-- A finite real is `units` over 2 ^ 149 or over 2 ^ 1074, with its sign.
pub four_units : (b : ℕ) → finite four b ≡ true → HasValue (of_bits binary32 b) (negative four b) (units four b) (2 ^ 149)
unfolding of_bits finite negative units significand exponent fraction
four_units b h = fields_value binary32 (negative four b) (exponent four b) (fraction four b) (ltb-true (exponent four b) 255 h)

pub eight_units : (b : ℕ) → finite eight b ≡ true → HasValue (of_bits binary64 b) (negative eight b) (units eight b) (2 ^ 1074)
unfolding of_bits finite negative units significand exponent fraction
eight_units b h = fields_value binary64 (negative eight b) (exponent eight b) (fraction eight b) (ltb-true (exponent eight b) 2047 h)

-- The others are infinities and not-a-numbers.
pub four_no_number : (b : ℕ) → exponent four b ≡ 255 → of_bits binary32 b ≡ cond (eqb (fraction four b) 0) (inf (negative four b)) nan
unfolding of_bits negative exponent fraction
four_no_number b h = fields_top binary32 (negative four b) (exponent four b) (fraction four b) h

pub eight_no_number : (b : ℕ) → exponent eight b ≡ 2047 → of_bits binary64 b ≡ cond (eqb (fraction eight b) 0) (inf (negative eight b)) nan
unfolding of_bits negative exponent fraction
eight_no_number b h = fields_top binary64 (negative eight b) (exponent eight b) (fraction eight b) h
