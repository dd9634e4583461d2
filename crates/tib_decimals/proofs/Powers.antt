-- Powers of five, and the size of a real times a power of ten.
use Prim.Native.Nat.{ℕ, zero, suc, ◌+◌, ◌*◌, ◌-◌, ◌^◌, ◌≤◌, ◌<◌}
use native.Mathlib.Nat.{pow-suc, pow-le-pow_right, mul-mul-mul_comm, lt_of_lt_of_le}
use native.Mathlib.Omega.{arith}
use mathlib.Core.Path.{◌≡◌, refl, sym}
use borrow.Author.Tests.{ne_eqb}
use Rattle.tib_real.specs.Parts.{eight, exponent, fraction, significand, units}
use Rattle.tib_real.proofs.Size.{power_grows, significand_below}
use Rattle.tib_decimals.specs.InDecimals.{scaled, rounded}
use Rattle.tib_decimals.specs.internal.Sizes.{size_of, Factors}
use Rattle.tib_decimals.proofs.Nearest.{nearest_zero}
use Rattle.tib_decimals.proofs.Shifts.{power_split}
use Rattle.tib_decimals.proofs.Exponents.{product_at_most}

pub five_to : (i k : ℕ) → k ≡ i → 5 ^ i ≡ 5 ^ k
five_to i k e = rw e

-- A number up to 9 that is none from 1 to 9 is 0.
pub at_most_five : (k : ℕ) → k ≤ 9 → (k ≡ 6 → ⊥) → (k ≡ 7 → ⊥) → (k ≡ 8 → ⊥) → (k ≡ 9 → ⊥) → k ≤ 5
at_most_five k h a b c d = omega arith

pub none : (k : ℕ) → k ≤ 5 → (k ≡ 1 → ⊥) → (k ≡ 2 → ⊥) → (k ≡ 3 → ⊥) → (k ≡ 4 → ⊥) → (k ≡ 5 → ⊥) → k ≡ 0
none k h a b c d e = omega arith

-- ---- the size of a real, scaled

ten : (k : ℕ) → 10 ^ k ≡ 5 ^ k * 2 ^ k
ten zero = refl
ten (suc k) = rw (pow-suc 10 k, pow-suc 5 k, pow-suc 2 k, ten k) (sym (mul-mul-mul_comm (5 ^ k) 5 (2 ^ k) 2))

five_at_least : (k : ℕ) → 1 ≤ k → 5 ^ 1 ≤ 5 ^ k
five_at_least k h = pow-le-pow_right (omega arith) h

five_at_most : (k : ℕ) → k ≤ 9 → 5 ^ k ≤ 5 ^ 9
five_at_most k h = pow-le-pow_right (omega arith) h

ten_at_most : (k : ℕ) → k ≤ 9 → 10 ^ k ≤ 10 ^ 9
ten_at_most k h = pow-le-pow_right (omega arith) h

module _ (b k : ℕ) where
  -- The fraction with the digit 1 before it.
  abbrev pub normal : ℕ
  normal = 2 ^ 52 + fraction eight b

  pub factors : 1 ≤ k → k ≤ 9 → Factors normal (5 ^ k) (exponent eight b + k)
  unfolding fraction
  factors h l =
      let p = five_at_least k h in
      let q = five_at_most k l in
      record { normal = omega arith; significand = omega arith; least = omega arith; most = omega arith; positive = omega arith }

  pub normal_size : (exponent eight b ≡ 0 → ⊥) → size_of normal (5 ^ k) (exponent eight b + k) ≡ rounded b k
  unfolding size_of rounded scaled units significand
  normal_size n =
      let e = exponent eight b in
      let p = power_split (e - 1) k (e + k - 1) (positive e n) in
      rw (ne_eqb e 0 n, p, mul-mul-mul_comm normal (5 ^ k) (2 ^ (e - 1)) (2 ^ k), ten k)
    where
      positive : (e : ℕ) → (e ≡ 0 → ⊥) → e + k - 1 ≡ e - 1 + k
      positive zero n = absurd (n refl)
      positive (suc e) n = omega arith

  -- Subnormals are too small.
  pub subnormal_size : k ≤ 9 → exponent eight b ≡ 0 → rounded b k ≡ 0
  unfolding rounded scaled units
  subnormal_size l z =
      let s = significand_below b in
      let p = product_at_most (significand eight b * 2 ^ 0) (10 ^ k) (2 ^ 53) (10 ^ 9) (omega arith) (ten_at_most k l) in
      rw z
      (nearest_zero (significand eight b * 2 ^ 0 * 10 ^ k) (2 ^ 1074) (lt_of_lt_of_le (below p) (power_grows 84 1074 (omega arith))))
    where
      below : {n : ℕ} → n ≤ 2 ^ 53 * 10 ^ 9 → 2 * n < 2 ^ 84
      below h = omega arith
