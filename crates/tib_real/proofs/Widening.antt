-- The bits after widening, in each case of the definition, and that the size is the same.
use Rattle.std.proofs.Common.{◌≡◌, ℕ, suc, ◌+◌, ◌-◌, ◌*◌, ◌/◌, ◌%◌, ◌^◌, ◌<◌, ◌≤◌, Bool, true, false, cond, eqb, leb, sym, refl, ap, ◌∙◌, mul-le-mul_right, mul_assoc, mul-lt-mul_of_pos_right, mul-one, mul_right_comm, mul_left_comm, arith, pow_pos, pow-add, ne_eqb, eqb-true, le-leb}
use lib.Count.{count_leading_zeros, leading_top}
use borrow.Author.Tests.{lt-leb, eqb-false}
use Rattle.tib_real.specs.Parts.{four, eight, negative, exponent, fraction, significand, units}
use Rattle.tib_real.specs.Widened.{packed, normalized, widened}

-- The exponent, the fraction and the sign of packed bits are those that were packed.
module _ (s : Bool) (x t : ℕ) (hx : x < 2048) (ht : t < 2 ^ 52) where
  pub packed_exponent : exponent eight (packed s x t) ≡ x
  unfolding exponent packed
  packed_exponent = go s
    where
      go : (s : Bool) → (cond s (2 ^ 63) 0 + (x * 2 ^ 52 + t)) % 2 ^ 63 / 2 ^ 52 ≡ x
      go true = omega arith
      go false = omega arith

  pub packed_fraction : fraction eight (packed s x t) ≡ t
  unfolding fraction packed
  packed_fraction = go s
    where
      go : (s : Bool) → (cond s (2 ^ 63) 0 + (x * 2 ^ 52 + t)) % 2 ^ 52 ≡ t
      go true = omega arith
      go false = omega arith

  pub packed_negative : negative eight (packed s x t) ≡ s
  unfolding negative packed
  packed_negative = go s
    where
      go : (s : Bool) → leb (2 ^ 63) (cond s (2 ^ 63) 0 + (x * 2 ^ 52 + t)) ≡ s
      go true = le-leb (2 ^ 63) (2 ^ 63 + (x * 2 ^ 52 + t)) (omega arith)
      go false = lt-leb (2 ^ 63) (0 + (x * 2 ^ 52 + t)) (omega arith)

  pub packed_below : packed s x t < 2 ^ 64
  unfolding packed
  packed_below = go s
    where
      go : (s : Bool) → cond s (2 ^ 63) 0 + (x * 2 ^ 52 + t) < 2 ^ 64
      go true = omega arith
      go false = omega arith

pub four_bounds : (b : ℕ) → (exponent four b < 256) × (fraction four b < 2 ^ 23)
unfolding exponent fraction
four_bounds b = (omega arith, omega arith)

regrouped : (a g p q r : ℕ) → g * q ≡ r → a * g * (p * q) ≡ a * p * r
regrouped a g p q r e =
    mul_assoc a g (p * q) ∙ ap (λ (n : ℕ). a * n) (mul_left_comm g p q ∙ ap (λ (n : ℕ). p * n) e) ∙ sym (mul_assoc a p r)

power_sum : (i j k : ℕ) → i + j ≡ k → 2 ^ i * 2 ^ j ≡ 2 ^ k
power_sum i j k e = sym (pow-add 2 i j) ∙ ap (λ (n : ℕ). 2 ^ n) e

-- A fraction above zero is moved up until its highest digit stands before it.
record Moved (t z : ℕ) : Type 0 where
  few : z < 24
  high : 2 ^ 23 ≤ t * 2 ^ z
  low : t * 2 ^ z < 2 ^ 24

moved_up : (t : ℕ) → 0 < t → t < 2 ^ 23 → Moved t (count_leading_zeros 24 t)
moved_up t above below =
    let l = leading_top 24 t above (omega arith) in
    go l.0 l.1 l.2 l.3
  where
    go : (j : ℕ) → count_leading_zeros 24 t + suc j ≡ 24 → 2 ^ j ≤ t → t < 2 ^ suc j → Moved t (count_leading_zeros 24 t)
    go j e lo hi =
        let z = count_leading_zeros 24 t in
        let u = power_sum j z 23 (omega arith) in
        let v = power_sum (suc j) z 24 (omega arith) in
        let a = mul-le-mul_right (2 ^ z) lo in
        let b = mul-lt-mul_of_pos_right hi (pow_pos z) in
        record { few = omega arith; high = omega arith; low = omega arith }

-- The bits after widening: an exponent of ones alone with the fraction moved up, or the exponent and the fraction of the same number.
pub data Widens (b : ℕ) : Type 0 where
  no_number : exponent four b ≡ 255 → widened b ≡ packed (negative four b) 2047 (fraction four b * 2 ^ 29) → Widens b
  number : (x t : ℕ) → exponent four b < 255 → x < 2047 → t < 2 ^ 52 → widened b ≡ packed (negative four b) x t
      → cond (eqb x 0) t (2 ^ 52 + t) * 2 ^ (x - 1) ≡ units four b * 2 ^ 925 → Widens b

-- Zero, a number with no digit before its fraction, and one with.
units_low : (b : ℕ) → exponent four b ≡ 0 → units four b ≡ fraction four b * 1
unfolding units significand
units_low b h = rw h

units_high : (b : ℕ) → (exponent four b ≡ 0 → ⊥) → units four b ≡ (2 ^ 23 + fraction four b) * 2 ^ (exponent four b - 1)
unfolding units significand
units_high b h = rw (ne_eqb (exponent four b) 0 h)

-- The size of a fraction moved up, and of one with 29 bits more, is the same with the exponent that belongs to it.
normalized_same : (t z : ℕ) → z < 24 → 2 ^ 23 ≤ t * 2 ^ z → (2 ^ 52 + (t * 2 ^ z - 2 ^ 23) * 2 ^ 29) * 2 ^ (897 - z - 1) ≡ t * 1 * 2 ^ 925
normalized_same t z few high =
    let e : 2 ^ 52 + (t * 2 ^ z - 2 ^ 23) * 2 ^ 29 ≡ t * 2 ^ z * 2 ^ 29 = omega arith in
    let p = power_sum z (897 - z - 1) 896 (omega arith) in
    ap (λ (n : ℕ). n * 2 ^ (897 - z - 1)) e
    ∙ ap (λ (n : ℕ). n * 2 ^ (897 - z - 1)) (mul_right_comm t (2 ^ z) (2 ^ 29))
    ∙ mul_assoc (t * 2 ^ 29) (2 ^ z) (2 ^ (897 - z - 1))
    ∙ ap (λ (n : ℕ). t * 2 ^ 29 * n) p
    ∙ mul_assoc t (2 ^ 29) (2 ^ 896)
    ∙ ap (λ (n : ℕ). n * 2 ^ 925) (sym (mul-one t))

normal_same : (x t : ℕ) → 0 < x → (2 ^ 52 + t * 2 ^ 29) * 2 ^ (x + 896 - 1) ≡ (2 ^ 23 + t) * 2 ^ (x - 1) * 2 ^ 925
normal_same x t h =
    let e : 2 ^ 52 + t * 2 ^ 29 ≡ (2 ^ 23 + t) * 2 ^ 29 = omega arith in
    let p = power_sum (x - 1) 896 (x + 896 - 1) (omega arith) in
    ap (λ (n : ℕ). n * 2 ^ (x + 896 - 1)) e
    ∙ ap (λ (n : ℕ). (2 ^ 23 + t) * 2 ^ 29 * n) (sym p)
    ∙ regrouped (2 ^ 23 + t) (2 ^ 29) (2 ^ (x - 1)) (2 ^ 896) (2 ^ 925) refl

-- An exponent above zero has the digit before its fraction.
with_digit : (x t v : ℕ) → (x ≡ 0 → ⊥) → (2 ^ 52 + t) * 2 ^ (x - 1) ≡ v → cond (eqb x 0) t (2 ^ 52 + t) * 2 ^ (x - 1) ≡ v
with_digit x t v h e = rw (ne_eqb x 0 h) e

-- The four cases of the definition.
module _ (b : ℕ) where
  pub widened_no_number : exponent four b ≡ 255 → widened b ≡ packed (negative four b) 2047 (fraction four b * 2 ^ 29)
  unfolding widened
  widened_no_number h = rw h

  widened_zero : exponent four b ≡ 0 → fraction four b ≡ 0 → widened b ≡ packed (negative four b) 0 0
  unfolding widened
  widened_zero h k = rw (h, k)

  widened_normalized : exponent four b ≡ 0 → (fraction four b ≡ 0 → ⊥) → widened b ≡ normalized (negative four b) (fraction four b)
  unfolding widened
  widened_normalized h k = rw (h, ne_eqb (fraction four b) 0 k)

  widened_normal : (exponent four b ≡ 255 → ⊥) → (exponent four b ≡ 0 → ⊥)
      → widened b ≡ packed (negative four b) (exponent four b + 896) (fraction four b * 2 ^ 29)
  unfolding widened
  widened_normal h k = rw (ne_eqb (exponent four b) 255 h, ne_eqb (exponent four b) 0 k)

zero_widens : (b : ℕ) → exponent four b ≡ 0 → fraction four b ≡ 0 → Widens b
zero_widens b h k = number 0 0 (omega arith) (omega arith) (omega arith) (widened_zero b h k) (rw (units_low b h, k))

normalized_widens : (b : ℕ) → exponent four b ≡ 0 → (fraction four b ≡ 0 → ⊥) → Widens b
unfolding normalized
normalized_widens b h k =
    let t = fraction four b in
    let m = moved_up t (omega arith) (four_bounds b).1 in
    let z = count_leading_zeros 24 t in
    number (897 - z) ((t * 2 ^ z - 2 ^ 23) * 2 ^ 29) (omega arith) (omega arith) (omega arith) (widened_normalized b h k)
    (with_digit (897 - z) _ _ (omega arith) (normalized_same t z m.few m.high ∙ ap (λ (n : ℕ). n * 2 ^ 925) (sym (units_low b h))))

normal_widens : (b : ℕ) → (exponent four b ≡ 255 → ⊥) → (exponent four b ≡ 0 → ⊥) → Widens b
normal_widens b h k =
    let x = exponent four b in
    let t = fraction four b in
    let l = four_bounds b in
    number (x + 896) (t * 2 ^ 29) (omega arith) (omega arith) (omega arith) (widened_normal b h k)
    (with_digit (x + 896) _ _ (omega arith) (normal_same x t (omega arith) ∙ ap (λ (n : ℕ). n * 2 ^ 925) (sym (units_high b k))))

pub widens : (b : ℕ) → Widens b
widens b = go (eqb (exponent four b) 255) refl (eqb (exponent four b) 0) refl (eqb (fraction four b) 0) refl
  where
    go : (p : Bool) → eqb (exponent four b) 255 ≡ p → (q : Bool) → eqb (exponent four b) 0 ≡ q → (r : Bool) → eqb (fraction four b) 0 ≡ r → Widens b
    go true e q f r g = no_number (eqb-true _ _ e) (widened_no_number b (eqb-true _ _ e))
    go false e true f true g = zero_widens b (eqb-true _ _ f) (eqb-true _ _ g)
    go false e true f false g = normalized_widens b (eqb-true _ _ f) (eqb-false _ _ g)
    go false e false f r g = normal_widens b (eqb-false _ _ e) (eqb-false _ _ f)
