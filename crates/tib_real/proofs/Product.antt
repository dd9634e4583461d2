-- The product of a real and a power of two is exact where its size is below 2 ^ 53.
use Rattle.std.proofs.Common.{◌≡◌, ℕ, ◌+◌, ◌-◌, ◌*◌, ◌%◌, ◌^◌, ◌<◌, ◌≤◌, Bool, true, false, T, pos, sym, ap, ◌∙◌, subst, lt_of_lt_of_le, mod-eq_of_lt, mul_assoc, mul-pos, one-mul, mul-one, mul_right_comm, mul_left_comm, arith, le→leb, pow-add, shl_lt}
use native.Mathlib.Nat.{eq_of_mul-eq-mul_right}
use lib.Ieee.{Float, fin, binary64, up, down, unlike, round, mul, of_int, of_bits, in_float, nan, inf}
use lib.Ieee.Back.{round_whole}
use lib.Ieee.Exact.{HasValue, round_exact}
use lib.Ieee.Fits.{down_pos}
use Rattle.tib_real.specs.Parts.{eight, negative, exponent, significand, units}
use Rattle.tib_real.specs.InFractions.{scaled}
use Rattle.tib_real.proofs.Meaning.{eight_units}
use Rattle.tib_real.proofs.Size.{power_grows, significand_below, exponent_finite}

-- From one fraction to another of the same size.
rescale : (x : Float) (s : Bool) (a c n d : ℕ) → 0 < c → n * c ≡ a * d → HasValue x s a c → HasValue x s n d
rescale (fin t m e) s a c n d p h v = (
  v.0,
  eq_of_mul-eq-mul_right c p (m * up e * d) (n * down e)
      (mul_right_comm (m * up e) d c
      ∙ ap (λ (k : ℕ). k * d) v.1
      ∙ mul_right_comm a (down e) d
      ∙ ap (λ (k : ℕ). k * down e) (sym h)
      ∙ mul_right_comm n c (down e)),
)
rescale nan s a c n d p h v = elim v [ ]
rescale (inf _) s a c n d p h v = elim v [ ]

unlike_plus : (s t : Bool) → t ≡ false → unlike s t ≡ s
unlike_plus true t e = rw e
unlike_plus false t e = rw e

-- Sizes of two factors, over 2 ^ 1074 and over 1, and that of the product.
factors : (p q d g a n c : ℕ) → p * c ≡ a * d → q * 1 ≡ n * g → p * q * c ≡ a * n * (d * g)
factors p q d g a n c v w =
    mul_right_comm p q c ∙ ap (λ (k : ℕ). k * q) v ∙ ap (λ (k : ℕ). a * d * k) (sym (mul-one q) ∙ w)
    ∙ mul_assoc a d (n * g)
    ∙ ap (λ (k : ℕ). a * k) (mul_left_comm d n g)
    ∙ sym (mul_assoc a n (d * g))

product_exact : (x y : Float) (s : Bool) (q j h : ℕ) → HasValue x s (q * 2 ^ j) (2 ^ 1074) → HasValue y false (2 ^ h) 1
    → q < 2 ^ 53 → j + h ≤ 1074 → HasValue (mul binary64 x y) s (q * 2 ^ j * 2 ^ h) (2 ^ 1074)
unfolding mul
product_exact (fin t m e) (fin u n g) s q j h v w k l =
    let f = factors (m * up e) (n * up g) (down e) (down g) (q * 2 ^ j) (2 ^ h) (2 ^ 1074) v.1 w.1 in
    let r : q * 2 ^ j * 2 ^ h ≡ q * 2 ^ (j + h) = mul_assoc q (2 ^ j) (2 ^ h) ∙ ap (λ (i : ℕ). q * i) (sym (pow-add 2 j h)) in
    let den = down e * down g in
    let b : q * 2 ^ (j + h) < 2 ^ 2098 = lt_of_lt_of_le (shl_lt 53 (j + h) k) (power_grows (53 + (j + h)) 2098 (omega arith)) in
    let z = mul-pos (down_pos e) (down_pos g) in
    rescale (round binary64 (unlike t u) (m * up e * (n * up g)) den) s (m * up e * (n * up g)) den (q * 2 ^ j * 2 ^ h) (2 ^ 1074) z (sym f)
    (subst (λ (p : Bool). HasValue (round binary64 (unlike t u) (m * up e * (n * up g)) den) p (m * up e * (n * up g)) den) (unlike_plus t u w.0 ∙ v.0)
    (round_exact binary64 (unlike t u) (m * up e * (n * up g)) den q (j + h) z k b (f ∙ ap (λ (i : ℕ). i * den) r)))
product_exact nan y s q j h v w k l = elim v [ ]
product_exact (inf _) y s q j h v w k l = elim v [ ]
product_exact (fin t m e) nan s q j h v w k l = elim w [ ]
product_exact (fin t m e) (inf _) s q j h v w k l = elim w [ ]

power_value : (h : ℕ) → h ≤ 8 → HasValue (of_int binary64 (pos (2 ^ h))) false (2 ^ h) 1
unfolding of_int
power_value h k = round_whole binary64 false (2 ^ h) (power_grows h 53 (omega arith))

-- The factor, as the machine makes it.
shifted : (h : ℕ) → h ≤ 8 → 1 * 2 ^ h % 2 ^ 64 ≡ 2 ^ h
shifted h k = let l = power_grows h 8 k in rw (one-mul (2 ^ h)) (mod-eq_of_lt (omega arith))

pub power_fits : (h : ℕ) → h ≤ 8 → T (in_float binary64 (pos (1 * 2 ^ h % 2 ^ 64)))
unfolding in_float
power_fits h k = rw (shifted h k) (le→leb (2 ^ h) (2 ^ 53) (power_grows h 53 (omega arith)))

-- The product, as the machine makes it.
abbrev pub product : ℕ → ℕ → Float
product b h = mul binary64 (of_bits binary64 b) (of_int binary64 (pos (1 * 2 ^ h % 2 ^ 64)))

pub product_value : (b h : ℕ) → h ≤ 8 → exponent eight b < 1076 - h → HasValue (product b h) (negative eight b) (scaled b h) (2 ^ 1074)
unfolding scaled units
product_value b h k e =
    rw (shifted h k)
    (product_exact (of_bits binary64 b) (of_int binary64 (pos (2 ^ h))) (negative eight b) (significand eight b) (exponent eight b - 1) h
    (eight_units b (exponent_finite b h e)) (power_value h k) (significand_below b) (omega arith))
