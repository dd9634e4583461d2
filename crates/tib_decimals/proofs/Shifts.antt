-- Powers of two, and what the machine's shifts give where nothing is lost.
use Prim.Native.Nat.{ℕ, ◌+◌, ◌*◌, ◌-◌, ◌/◌, ◌%◌, ◌^◌, ◌≤◌, ◌<◌}
use native.Mathlib.Nat.{one-mul}
use native.Mathlib.Omega.{arith}
use mathlib.Core.Path.{◌≡◌, ap, ◌∙◌}
use lib.Bits.{bit_and, and_mask}
use lib.Pow.{pow_pos, pow-add, shl_exact}
use Rattle.tib_real.proofs.Size.{power_grows}
use Rattle.tib_decimals.specs.Nearest.{nearest}
use Rattle.tib_decimals.proofs.Rounding.{rounding_sum}

-- A power of two as a product of two.
pub power_split : (i j k : ℕ) → k ≡ i + j → 2 ^ k ≡ 2 ^ i * 2 ^ j
power_split i j k e = ap (λ (n : ℕ). 2 ^ n) e ∙ pow-add 2 i j

pub one_shifted : (k : ℕ) → k ≤ 63 → 1 * 2 ^ k % 2 ^ 64 ≡ 2 ^ k
one_shifted k h = shl_exact 1 k 64 (omega arith) (omega arith) ∙ one-mul (2 ^ k)

-- The last bit of a number.
pub last_bit : (n : ℕ) → bit_and n 1 ≡ n % 2
last_bit n = and_mask n 1

-- Half of 2 ^ t, as the machine makes it.
abbrev pub half : ℕ → ℕ
half t = 1 * 2 ^ (t - 1) % 2 ^ 64

pub half_is : (t : ℕ) → t ≤ 64 → half t ≡ 2 ^ (t - 1)
half_is t h = one_shifted (t - 1) (omega arith)

pub half_bounds : (t : ℕ) → t ≤ 52 → (1 ≤ half t) × (half t ≤ 2 ^ 51)
half_bounds t h = rw (half_is t (omega arith)) (pow_pos (t - 1), power_grows (t - 1) 51 (omega arith))

-- Rounding by a sum and a shift.
pub rounding_shift : (v t : ℕ) → 0 < t → (v + (2 ^ (t - 1) - 1) + v / 2 ^ t % 2) / 2 ^ t ≡ nearest v (2 ^ t)
rounding_shift v t p = rw (power_split 1 (t - 1) t (omega arith)) (rounding_sum (2 ^ (t - 1)) (pow_pos (t - 1)) v)
