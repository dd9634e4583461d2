-- When x times 2 ^ h is below 2 ^ 53 in size: exactly when x has an exponent below 1076 - h.
use Rattle.std.proofs.Common.{◌≡◌, ℕ, ◌+◌, ◌-◌, ◌*◌, ◌/◌, ◌%◌, ◌^◌, ◌<◌, ◌≤◌, Bool, true, false, cond, ◌&&◌, eqb, sym, ap, ◌∙◌, le_trans, le_of_eq, lt_of_lt_of_le, mul-le-mul_right, mul_assoc, div-lt_iff_lt-mul, le-div_iff_mul-le, arith, pow_pos, pow_mono, pow-add, shl_lt, le-ltb, lt-ltb, eq-eqb, ne_eqb}
use Rattle.tib_real.specs.Parts.{eight, negative, exponent, fraction, finite, significand, units}
use Rattle.tib_real.proofs.Flags.{and-false}
use Rattle.tib_real.specs.WholeNumber.{signed, refused, accepted}
use Rattle.tib_real.specs.InFractions.{scaled, countable, in_fractions}

pub power_grows : (i j : ℕ) → i ≤ j → 2 ^ i ≤ 2 ^ j
power_grows i j h = pow_mono h

pub significand_below : (b : ℕ) → significand eight b < 2 ^ 53
unfolding significand fraction
significand_below b = go (eqb (exponent eight b) 0)
  where
    go : (p : Bool) → cond p (b % 2 ^ 52) (2 ^ 52 + b % 2 ^ 52) < 2 ^ 53
    go true = omega arith
    go false = omega arith

-- An exponent above zero has the digit before its fraction.
significand_above : (b : ℕ) → (exponent eight b ≡ 0 → ⊥) → 2 ^ 52 ≤ significand eight b
unfolding significand
significand_above b h = rw (ne_eqb (exponent eight b) 0 h) (omega arith)

pub scaled_power : (b h : ℕ) → scaled b h ≡ significand eight b * 2 ^ (exponent eight b - 1 + h)
unfolding scaled units
scaled_power b h = mul_assoc (significand eight b) (2 ^ (exponent eight b - 1)) (2 ^ h) ∙ ap (λ (n : ℕ). significand eight b * n) (sym (pow-add 2 (exponent eight b - 1) h))

pub scaled_below : (b h : ℕ) → h ≤ 8 → exponent eight b < 1076 - h → scaled b h < 2 ^ 53 * 2 ^ 1074
scaled_below b h k e =
    rw (scaled_power b h)
    (lt_of_lt_of_le (shl_lt 53 (exponent eight b - 1 + h) (significand_below b)) (power_grows (53 + (exponent eight b - 1 + h)) 1127 (omega arith)))

pub scaled_above : (b h : ℕ) → h ≤ 8 → 1076 - h ≤ exponent eight b → 2 ^ 53 * 2 ^ 1074 ≤ scaled b h
scaled_above b h k e =
    rw (scaled_power b h)
    (le_trans (power_grows 1127 (52 + (exponent eight b - 1 + h)) (omega arith))
    (le_trans (le_of_eq (pow-add 2 52 (exponent eight b - 1 + h))) (mul-le-mul_right (2 ^ (exponent eight b - 1 + h)) (significand_above b (λ z. omega arith)))))

-- ---- what is answered then

pub too_large : (b h : ℕ) → h ≤ 8 → 1076 - h ≤ exponent eight b → refused ≡ in_fractions b h
unfolding in_fractions countable
too_large b h k e =
    let l = le-ltb (scaled b h / 2 ^ 1074) (2 ^ 53) ((le-div_iff_mul-le (pow_pos 1074)).1 (scaled_above b h k e)) in
    rw (l, and-false (finite eight b && eqb (scaled b h % 2 ^ 1074) 0))

pub not_whole : (b h : ℕ) → (scaled b h % 2 ^ 1074 ≡ 0 → ⊥) → refused ≡ in_fractions b h
unfolding in_fractions countable
not_whole b h e = rw (ne_eqb (scaled b h % 2 ^ 1074) 0 e, and-false (finite eight b))

pub quotient_below : (b h : ℕ) → h ≤ 8 → exponent eight b < 1076 - h → scaled b h / 2 ^ 1074 < 2 ^ 53
quotient_below b h k e = (div-lt_iff_lt-mul (pow_pos 1074)).1 (scaled_below b h k e)

pub exponent_finite : (b h : ℕ) → exponent eight b < 1076 - h → finite eight b ≡ true
unfolding finite
exponent_finite b h e = lt-ltb (exponent eight b) 2047 (omega arith)

pub whole : (b h : ℕ) → h ≤ 8 → exponent eight b < 1076 - h → scaled b h % 2 ^ 1074 ≡ 0
    → accepted (signed (negative eight b) (scaled b h / 2 ^ 1074)) ≡ in_fractions b h
unfolding in_fractions countable
whole b h k e z =
    rw (exponent_finite b h e, eq-eqb (scaled b h % 2 ^ 1074) 0 z, lt-ltb (scaled b h / 2 ^ 1074) (2 ^ 53) (quotient_below b h k e))
