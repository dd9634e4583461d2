-- The function `size`: a significand m, a power f of five and an exponent e.
use Prim.Native.Nat.{ℕ, ◌+◌, ◌*◌, ◌-◌, ◌/◌, ◌%◌, ◌^◌, ◌≤◌, ◌<◌}
use native.Mathlib.Nat.{mul_right_comm, add-mul, mul-le-mul, mul-lt-mul_of_pos_left, lt_of_lt_of_le, div-add-mod'}
use native.Mathlib.Omega.{arith}
use mathlib.Core.Path.{◌≡◌, sym, ap, ◌∙◌}
use lib.Bits.{bit_and, and_mask}
use lib.Pow.{pow_pos, shl_lt}
use Rattle.tib_real.proofs.Size.{power_grows}
use Rattle.tib_decimals.specs.Nearest.{nearest}
use Rattle.tib_decimals.specs.internal.Sizes.{size_of, Factors}
use Rattle.tib_decimals.proofs.Nearest.{nearest_scaled, nearest_zero, nearest_at_least, nearest_at_most}
use Rattle.tib_decimals.proofs.Shifts.{power_split}

pub product_at_most : (a b x y : ℕ) → a ≤ x → b ≤ y → a * b ≤ x * y
product_at_most a b x y h k = mul-le-mul h k

-- ---- the two parts of a product, as the machine makes them

module _ (s f : ℕ) (a : s < 2 ^ 63) (b : f < 2 ^ 21) where
  abbrev pub low_product : ℕ
  low_product = bit_and s 0xffffffff * f

  abbrev pub high : ℕ
  high = s / 2 ^ 32 * f + low_product / 2 ^ 32

  abbrev pub low : ℕ
  low = bit_and low_product 0xffffffff

  pub low_product_below : low_product < 2 ^ 53
  low_product_below =
      let h = and_mask s 32 in
      let p = product_at_most (bit_and s 0xffffffff) f (2 ^ 32 - 1) (2 ^ 21 - 1) (omega arith) (omega arith) in
      omega arith

  high_product_below : s / 2 ^ 32 * f ≤ (2 ^ 31 - 1) * (2 ^ 21 - 1)
  high_product_below = product_at_most (s / 2 ^ 32) f (2 ^ 31 - 1) (2 ^ 21 - 1) (omega arith) (omega arith)

  pub high_below : high < 2 ^ 52
  high_below = omega (arith, low_product_below, high_product_below)

  pub low_below : low < 2 ^ 32
  low_below = let h = and_mask low_product 32 in omega arith

  pub parts_product : high * 2 ^ 32 + low ≡ s * f
  parts_product =
      let h = and_mask low_product 32 in
      let d = add-mul (s / 2 ^ 32 * 2 ^ 32) (s % 2 ^ 32) f in
      let r = mul_right_comm (s / 2 ^ 32) (2 ^ 32) f in
      let x = ap (λ (n : ℕ). n * f) (div-add-mod' s (2 ^ 32)) in
      let y = ap (λ (n : ℕ). n * f) (and_mask s 32) in
      omega arith

-- ---- by the exponent

module _ (m f e : ℕ) (k : Factors m f e) where
  -- The significand with ten bits more, as the machine makes it.
  abbrev pub shifted : ℕ
  shifted = m * 2 ^ 10 % 2 ^ 64

  pub shifted_below : shifted < 2 ^ 63
  shifted_below = omega arith

  shifted_is : shifted ≡ m * 2 ^ 10
  shifted_is = omega arith

  product_below : m * f < 2 ^ 74
  product_below = let p = product_at_most m f (2 ^ 53 - 1) (2 ^ 21 - 1) (omega arith) (omega arith) in omega arith

  pub far_up : 1085 ≤ e → 2 ^ 63 < size_of m f e
  unfolding size_of
  far_up h =
      let p = product_at_most (2 ^ 52) 4 m f k.normal k.least in
      let q : 2 ^ 52 * 4 * 2 ^ 1084 ≤ m * f * 2 ^ (e - 1) = mul-le-mul p (power_grows 1084 (e - 1) (omega arith)) in
      lt_of_lt_of_le (omega arith) (nearest_at_least (2 ^ 64) (m * f * 2 ^ (e - 1)) (2 ^ 1074) (pow_pos 1074) q)

  pub far_down : e < 1001 → size_of m f e ≡ 0
  unfolding size_of
  far_down h =
      let p = lt_of_lt_of_le (shl_lt 74 (e - 1) product_below) (power_grows (74 + (e - 1)) 1073 (omega arith)) in
      nearest_zero (m * f * 2 ^ (e - 1)) (2 ^ 1074) (mul-lt-mul_of_pos_left p (pow_pos 1))

  pub between : (t : ℕ) → t + e ≡ 1085 → nearest (shifted * f) (2 ^ t) ≡ size_of m f e
  unfolding size_of
  between t h =
      let p = power_split t (e - 1) 1084 (omega (arith, k.positive)) in
      let q = nearest_scaled (m * f * 2 ^ 10) (2 ^ t) (2 ^ (e - 1)) (pow_pos t) (pow_pos (e - 1)) in
      let r = nearest_scaled (m * f * 2 ^ (e - 1)) (2 ^ 1074) (2 ^ 10) (pow_pos 1074) (pow_pos 10) in
      rw (shifted_is, mul_right_comm m (2 ^ 10) f) (sym q ∙ rw (← p, mul_right_comm (m * f) (2 ^ 10) (2 ^ (e - 1))) r)

  pub small_below : e < 1053 → size_of m f e ≤ 2 ^ 63
  small_below h =
      let p = power_grows 33 (1085 - e) (omega arith) in
      let q = product_at_most m f (2 ^ 53 - 1) (2 ^ 21 - 1) (omega arith) (omega arith) in
      let r = mul_right_comm m (2 ^ 10) f in
      let s = ap (λ (x : ℕ). x * f) shifted_is in
      rw (← between (1085 - e) (omega arith)) (nearest_at_most (2 ^ 63) (shifted * f) (2 ^ (1085 - e)) (pow_pos (1085 - e)) (omega arith))
