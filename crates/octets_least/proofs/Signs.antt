-- Laws for the least octets of a signed number.
use Prim.Native.Nat.{ℕ, suc, ◌+◌, ◌*◌, ◌-◌, ◌%◌, ◌^◌, ◌≤◌, ◌<◌}
use native.Mathlib.Numerals.{add-one}
use native.Mathlib.Omega.{arith}
use mathlib.Core.Path.{◌≡◌, ◌∙◌}
use lib.Bits.{bit_and, and_mask, and_le_r}
use lib.IntN.{ℤ, pos, negsuc}
use Rattle.octets.specs.Number.{width}
use Rattle.octets.specs.Signed.{lowest, signed_width, signed_bits}
use Rattle.octets.specs.internal.Least.{int_width_bits}
use Rattle.octets.specs.declared.Least.{Least}

-- The sign bit and what the mask leaves fit.
pub masked_fits : (k low : ℕ) → 0 < low → low ≤ 2 ^ 63 → low + bit_and (k + 1) (low - 1) < 2 ^ 64
masked_fits k low a b = let m = and_le_r (k + 1) (low - 1) in omega arith

-- The mask takes the remainder by the sign bit.
masked : (k n : ℕ) → bit_and (k + 1) (lowest n - 1) ≡ suc k % lowest n
unfolding lowest
masked k n = and_mask (k + 1) (8 * n - 1) ∙ rw (add-one k)

pub below_is : (k n low : ℕ) → n ≡ width (2 * k + 1) → low ≡ lowest n
    → ◌≡◌ {A = Least} (record { width = n; bits = low + bit_and (k + 1) (low - 1) }) (int_width_bits (negsuc k))
unfolding int_width_bits signed_width signed_bits
below_is k n low e f = rw (f, masked k n, e)

pub above_is : (z : ℤ) (v n : ℕ) → z ≡ pos v → n ≡ width (2 * v) → ◌≡◌ {A = Least} (record { width = n; bits = v }) (int_width_bits z)
unfolding int_width_bits signed_width signed_bits
above_is z v n e f = rw (e, f)
