-- What widening keeps: the sign, the size exactly, and of a not-a-number the fraction bits.
use Rattle.std.proofs.Common.{◌≡◌, ℕ, zero, suc, ◌+◌, ◌-◌, ◌*◌, ◌/◌, ◌^◌, ◌<◌, Bool, true, false, cond, not, T, eqb, ltb, ℤ, sym, refl, ap, ◌∙◌, mul_assoc, mul_right_comm, mul-div_cancel, arith, ltb-false, ltb-true, lt-ltb, ne_eqb}
use lib.Ieee.{Float, fin, binary32, binary64, hid, top, up, down, size, fits, is_nan, of_bits, to_bits, nan, inf}
use lib.Ieee.Bits.{of_bits-to_bits, of_bits-fits, to_bits-of_bits}
use lib.Ieee.Exact.{HasValue}
use lib.Ieee.Fits.{down_pos, fits_widens}
use Rattle.tib_real.specs.Parts.{four, eight, negative, exponent, fraction, finite, significand, units}
use Rattle.tib_real.specs.Widened.{widened}
use Rattle.tib_real.proofs.Meaning.{four_units, eight_units, four_no_number, eight_no_number}
use Rattle.tib_real.proofs.Widening.{four_bounds, packed_exponent, packed_fraction, packed_negative, packed_below, Widens, no_number, number, widens}

-- ---- in whole numbers

pub sign_kept : (b : ℕ) → negative eight (widened b) ≡ negative four b
sign_kept b = go (widens b)
  where
    go : Widens b → negative eight (widened b) ≡ negative four b
    go (no_number e w) = let l = four_bounds b in rw w (packed_negative (negative four b) 2047 (fraction four b * 2 ^ 29) (omega arith) (omega arith))
    go (number x t f hx ht w s) = rw w (packed_negative (negative four b) x t (omega arith) ht)

-- Both sizes are whole numbers over a power of two, 2 ^ 149 and 2 ^ 1074: multiplied out they are the same.
pub size_kept : (b : ℕ) → finite four b ≡ true → (finite eight (widened b) ≡ true) × (units eight (widened b) ≡ units four b * 2 ^ 925)
unfolding finite units significand
size_kept b h = go (widens b)
  where
    go : Widens b → (ltb (exponent eight (widened b)) 2047 ≡ true) × (cond (eqb (exponent eight (widened b)) 0) (fraction eight (widened b)) (2 ^ 52 + fraction eight (widened b)) * 2 ^ (exponent eight (widened b) - 1) ≡ units four b * 2 ^ 925)
    go (no_number e w) = let l = ltb-true (exponent four b) 255 h in absurd (omega arith)
    go (number x t f hx ht w s) = rw (w, packed_exponent (negative four b) x t (omega arith) ht, packed_fraction (negative four b) x t (omega arith) ht) (lt-ltb x 2047 hx, s)

-- Of an infinity and a not-a-number.
pub fraction_kept : (b : ℕ) → finite four b ≡ false → (exponent eight (widened b) ≡ 2047) × (fraction eight (widened b) ≡ fraction four b * 2 ^ 29)
unfolding finite
fraction_kept b h = go (widens b)
  where
    go : Widens b → (exponent eight (widened b) ≡ 2047) × (fraction eight (widened b) ≡ fraction four b * 2 ^ 29)
    go (no_number e w) =
        let l = four_bounds b in
        let s = negative four b in
        rw w (packed_exponent s 2047 (fraction four b * 2 ^ 29) (omega arith) (omega arith), packed_fraction s 2047 (fraction four b * 2 ^ 29) (omega arith) (omega arith))
    go (number x t f hx ht w s) = let l = ltb-false (exponent four b) 255 h in absurd (omega arith)

pub widened_below : (b : ℕ) → widened b < 2 ^ 64
widened_below b = go (widens b)
  where
    go : Widens b → widened b < 2 ^ 64
    go (no_number e w) = let l = four_bounds b in rw w (packed_below (negative four b) 2047 (fraction four b * 2 ^ 29) (omega arith) (omega arith))
    go (number x t f hx ht w s) = rw w (packed_below (negative four b) x t (omega arith) ht)

-- ---- as the logic reads bits

-- Two values of eight octets with one sign and one size are the same.
bits_of_value : (s : Bool) (m : ℕ) (e : ℤ) (a : ℕ) → m * up e * 2 ^ 1074 ≡ a * down e
    → to_bits binary64 (fin s m e) ≡ cond s (top binary64) 0 + (size a - 53) * hid binary64 + a / 2 ^ (size a - 53)
unfolding to_bits
bits_of_value s m e a h =
    ap (λ (n : ℕ). cond s (top binary64) 0 + (size n - 53) * hid binary64 + n / 2 ^ (size n - 53)) (ap (λ (n : ℕ). n / down e) h ∙ mul-div_cancel a (down_pos e))

same_bits : (x y : Float) (s : Bool) (a : ℕ) → HasValue x s a (2 ^ 1074) → HasValue y s a (2 ^ 1074) → to_bits binary64 x ≡ to_bits binary64 y
same_bits (fin t m e) (fin u n d) s a v w =
    bits_of_value t m e a v.1 ∙ rw (v.0 ∙ sym w.0) (sym (bits_of_value u n d a w.1))
same_bits nan y s a v w = elim v [ ]
same_bits (inf _) y s a v w = elim v [ ]
same_bits (fin t m e) nan s a v w = elim w [ ]
same_bits (fin t m e) (inf _) s a v w = elim w [ ]

same_float : (x y : Float) (s : Bool) (a : ℕ) → T (fits binary64 x) → T (fits binary64 y) → HasValue x s a (2 ^ 1074) → HasValue y s a (2 ^ 1074) → x ≡ y
same_float x y s a p q v w = sym (of_bits-to_bits binary64 x p) ∙ ap (of_bits binary64) (same_bits x y s a v w) ∙ of_bits-to_bits binary64 y q

-- A size over 2 ^ 149 as one over 2 ^ 1074.
finer : (x : Float) (s : Bool) (a : ℕ) → HasValue x s a (2 ^ 149) → HasValue x s (a * 2 ^ 925) (2 ^ 1074)
finer (fin t m e) s a v = (
  v.0,
  sym (mul_assoc (m * up e) (2 ^ 149) (2 ^ 925)) ∙ ap (λ (n : ℕ). n * 2 ^ 925) v.1 ∙ mul_right_comm a (down e) (2 ^ 925),
)
finer nan s a v = elim v [ ]
finer (inf _) s a v = elim v [ ]

-- Moving a fraction up leaves no fraction where there is none, and only there.
moved_zero : (t : ℕ) → eqb (t * 2 ^ 29) 0 ≡ eqb t 0
moved_zero zero = refl
moved_zero (suc t) = ne_eqb (suc t * 2 ^ 29) 0 (λ e. omega arith) ∙ sym (ne_eqb (suc t) 0 (λ e. omega arith))

finite_kept : (b : ℕ) → finite four b ≡ true → of_bits binary64 (widened b) ≡ of_bits binary32 b
finite_kept b h =
    let k = size_kept b h in
    let v = rw (sign_kept b, k.1) at (eight_units (widened b) k.0) in
    sym
    (same_float (of_bits binary32 b) (of_bits binary64 (widened b)) (negative four b) (units four b * 2 ^ 925)
    (fits_widens (of_bits binary32 b) (of_bits-fits binary32 b))
    (of_bits-fits binary64 (widened b))
    (finer (of_bits binary32 b) (negative four b) (units four b) (four_units b h))
    v)

others_kept : (b : ℕ) → finite four b ≡ false → of_bits binary64 (widened b) ≡ of_bits binary32 b
unfolding finite
others_kept b h =
    let k = fraction_kept b h in
    let l = four_bounds b in
    let g = ltb-false (exponent four b) 255 h in
    eight_no_number (widened b) k.0 ∙ rw (sign_kept b, k.1, moved_zero (fraction four b)) (sym (four_no_number b (omega arith)))

-- The logic writes each number in one way, as a whole number times a power of two with its sign, so this says that the number is the same.
-- Infinities stay infinities, and not-a-numbers stay not-a-numbers.
pub value_kept : (b : ℕ) → of_bits binary64 (widened b) ≡ of_bits binary32 b
value_kept b = go (finite four b) refl
  where
    go : (p : Bool) → finite four b ≡ p → of_bits binary64 (widened b) ≡ of_bits binary32 b
    go true h = finite_kept b h
    go false h = others_kept b h

-- So the machine's conversion of what is no not-a-number has the widened bits.
pub converted : (b : ℕ) → T (not (is_nan (of_bits binary32 b))) → to_bits binary64 (of_bits binary32 b) ≡ widened b
converted b h =
    let e = value_kept b in
    ap (to_bits binary64) (sym e) ∙ to_bits-of_bits binary64 (widened b) (widened_below b) (rw e h)
