-- Rounding a product of two parts, high * 2 ^ 32 + low: the functions `small` and `large`.
use Prim.Native.Nat.{ℕ, ◌+◌, ◌*◌, ◌-◌, ◌/◌, ◌%◌, ◌^◌, ◌≤◌, ◌<◌}
use native.Mathlib.Nat.{mul_assoc, mul-le-mul_right, mul-lt-mul_of_pos_right, mul-add-div_right, div-le_self, add_comm}
use native.Mathlib.Omega.{arith}
use mathlib.Core.Path.{◌≡◌, sym, ap, ◌∙◌}
use lib.Bits.{bit_and, mask_lt}
use lib.Pow.{pow_pos, shr-shr, shr_le}
use Rattle.tib_decimals.specs.Nearest.{nearest}
use Rattle.tib_decimals.proofs.Shifts.{power_split, one_shifted, last_bit, half, half_is, half_bounds, rounding_shift}

module _ (high low t : ℕ) (a : high < 2 ^ 52) (b : low < 2 ^ 32) (p : 0 < t) where
  abbrev product : ℕ
  product = high * 2 ^ 32 + low

  -- ---- the quotient by 2 ^ (t + 32)

  -- First the quotient by 2 ^ 32, then that by 2 ^ t.
  quotient_in_two : (n : ℕ) → n / 2 ^ (t + 32) ≡ n / 2 ^ 32 / 2 ^ t
  quotient_in_two n = ap (λ (x : ℕ). n / 2 ^ x) (add_comm t 32) ∙ sym (shr-shr n 32 t)

  abbrev odd : ℕ
  odd = bit_and (high / 2 ^ t) 1

  abbrev carry : ℕ
  carry = (low + 0xffffffff + odd) / 2 ^ 32

  odd_is : product / 2 ^ (t + 32) % 2 ≡ odd
  odd_is =
      let e : product / 2 ^ 32 ≡ high = omega arith in
      rw (quotient_in_two product, e) (sym (last_bit (high / 2 ^ t)))

  -- Above the low 32 bits, the sum is that of the high parts and the carry.
  sum_high : (n o : ℕ) → 0 < n → (product + (2 ^ 32 * n - 1) + o) / 2 ^ 32 ≡ high + (n - 1) + (low + 0xffffffff + o) / 2 ^ 32
  sum_high n o l = omega arith

  pub small_is : t ≤ 52 → (high + (half t - 1) + carry) / 2 ^ t ≡ nearest product (2 ^ (t + 32))
  small_is h =
      let e = rounding_shift product (t + 32) (omega arith) in
      let f = power_split 32 (t - 1) (t + 32 - 1) (omega arith) in
      rw (half_is t (omega arith)) (rw (odd_is, f, quotient_in_two, sum_high (2 ^ (t - 1)) odd (pow_pos (t - 1))) at e)

  pub odd_below : odd < 2
  odd_below = mask_lt (high / 2 ^ t) 1

  -- ---- the quotient by 2 ^ t

  module _ (q : t ≤ 32) where
    abbrev whole : ℕ
    whole = high * 2 ^ (32 - t)

    abbrev rounded : ℕ
    rounded = nearest product (2 ^ t)

    product_whole : product ≡ whole * 2 ^ t + low
    product_whole =
        let e = mul_assoc high (2 ^ (32 - t)) (2 ^ t) ∙ ap (λ (x : ℕ). high * x) (sym (power_split (32 - t) t 32 (omega arith))) in
        omega arith

    -- Only the low part is rounded.
    large_is : whole + (low + (half t - 1) + (whole + low / 2 ^ t) % 2) / 2 ^ t ≡ rounded
    large_is =
        let e = rounding_shift product t p in
        let f : product / 2 ^ t ≡ whole + low / 2 ^ t = rw product_whole (mul-add-div_right (pow_pos t) whole low) in
        let o = (whole + low / 2 ^ t) % 2 in
        let g : product + (2 ^ (t - 1) - 1) + o ≡ whole * 2 ^ t + (low + (2 ^ (t - 1) - 1) + o) = omega (arith, product_whole) in
        rw (half_is t (omega arith)) (rw (f, g, mul-add-div_right (pow_pos t) whole (low + (2 ^ (t - 1) - 1) + o)) at e)

    -- The greatest high part with which the result may be in range, as the machine makes it.
    limit : 2 ^ 63 ≡ 1 * 2 ^ (31 + t) % 2 ^ 64 * 2 ^ (32 - t)
    limit = rw (one_shifted (31 + t) (omega arith)) (power_split (31 + t) (32 - t) 63 (omega arith))

    pub above_limit : 1 * 2 ^ (31 + t) % 2 ^ 64 < high → 2 ^ 63 < rounded
    above_limit h = let m = mul-lt-mul_of_pos_right h (pow_pos (32 - t)) in omega (arith, limit, large_is)

    pub whole_below : high ≤ 1 * 2 ^ (31 + t) % 2 ^ 64 → whole ≤ 2 ^ 63
    whole_below h = let m = mul-le-mul_right (2 ^ (32 - t)) h in omega (arith, limit)

    -- The sums of the code: none is too large, and the last is the result.
    pub quotient_below : low / 2 ^ t ≤ low
    quotient_below = shr_le low t

    abbrev pub last : ℕ
    last = bit_and (whole % 2 ^ 64 + low / 2 ^ t) 1

    pub last_below : last < 2
    last_below = mask_lt (whole % 2 ^ 64 + low / 2 ^ t) 1

    pub within_limit_lem : high ≤ 1 * 2 ^ (31 + t) % 2 ^ 64
        → (whole % 2 ^ 64 + (low + (half t - 1) + last) / 2 ^ t ≡ rounded) × (rounded < 2 ^ 64)
    within_limit_lem h =
        let w = whole_below h in
        let e : whole % 2 ^ 64 ≡ whole = omega arith in
        let s = div-le_self (low + (half t - 1) + (whole + low / 2 ^ t) % 2) (2 ^ t) in
        let g = half_bounds t (omega arith) in
        (rw (e, last_bit (whole + low / 2 ^ t)) large_is, omega (arith, large_is))
