-- Laws of masks: their bits, one by one.
use Prim.Native.Nat.{ℕ, zero, suc, ◌+◌, ◌*◌, ◌/◌, ◌%◌, ◌^◌, ◌<◌, max}
use native.Mathlib.Nat.{pow-suc, one-mul}
use native.Mathlib.Omega.{arith}
use mathlib.Core.Path.{◌≡◌, refl, sym, ap, ◌∙◌}
use mathlib.Core.Bool.{Bool, true, false, ◌||◌}
use lib.Bits.{bit_or, or_step, or_shr, or_lt}
use lib.Pow.{pow-lt, shl_exact, shr-shr, shr_le}
use lib.Dec.{eqb, eqb-zero-suc, eqb-suc-zero, eqb-suc-suc}
use borrow.Author.Tests.{eqb-true, eqb-false, eq-eqb, ne_eqb}
use Rattle.table.specs.Mask.{has_bit, with_bit}

-- The mask 0 has no bit.
pub has_none : (j : ℕ) → has_bit 0 j ≡ false
unfolding has_bit
has_none j = ne_eqb (0 / 2 ^ j % 2) 1 (λ e. omega (arith, shr_le 0 j))

-- A bit after the lowest is a bit of the half.
has_half : (mask j : ℕ) → has_bit mask (suc j) ≡ has_bit (mask / 2) j
unfolding has_bit
has_half mask j =
    let e : 1 + j ≡ suc j = omega arith in
    rw (← e, ← shr-shr mask 1 j) refl

-- The mask with the bit k alone.
has_power : (k j : ℕ) → has_bit (2 ^ k) j ≡ eqb j k
unfolding has_bit
has_power zero zero = refl
has_power zero (suc j) = has_half 1 j ∙ has_none j ∙ sym (eqb-suc-zero j)
has_power (suc k) zero = ne_eqb (2 ^ suc k / 2 ^ 0 % 2) 1 (λ e. omega (arith, pow-suc 2 k)) ∙ sym (eqb-zero-suc k)
has_power (suc k) (suc j) =
    let half : 2 ^ suc k / 2 ≡ 2 ^ k = omega (arith, pow-suc 2 k) in
    has_half (2 ^ suc k) j ∙ ap (λ (mask : ℕ). has_bit mask j) half ∙ has_power k j ∙ sym (eqb-suc-suc j k)

-- The lowest bit of a disjunction.
odd_or : (a b : ℕ) → eqb (bit_or a b % 2) 1 ≡ eqb (a % 2) 1 || eqb (b % 2) 1
odd_or a b = go (eqb (a % 2) 1) refl (eqb (b % 2) 1) refl
  where
    larger : bit_or a b % 2 ≡ max (a % 2) (b % 2)
    larger = omega (arith, or_step a b)

    go : (p : Bool) → eqb (a % 2) 1 ≡ p → (q : Bool) → eqb (b % 2) 1 ≡ q → eqb (bit_or a b % 2) 1 ≡ p || q
    go true e q f = eq-eqb (bit_or a b % 2) 1 (omega (arith, larger, eqb-true (a % 2) 1 e))
    go false e true f = eq-eqb (bit_or a b % 2) 1 (omega (arith, larger, eqb-true (b % 2) 1 f))
    go false e false f = ne_eqb (bit_or a b % 2) 1 (λ z. omega (arith, larger, eqb-false (a % 2) 1 e, eqb-false (b % 2) 1 f))

-- The bits of a mask with one bit more.
pub has_with : (mask k j : ℕ) → has_bit (with_bit mask k) j ≡ has_bit mask j || eqb j k
unfolding has_bit with_bit
has_with mask k j =
    rw (or_shr mask (2 ^ k) j) (odd_or (mask / 2 ^ j) (2 ^ k / 2 ^ j) ∙ ap (λ (b : Bool). eqb (mask / 2 ^ j % 2) 1 || b) (has_power k j))

-- A mask of 64 bits stays one.
pub with_small : (mask k : ℕ) → mask < 2 ^ 64 → k < 64 → with_bit mask k < 2 ^ 64
unfolding with_bit
with_small mask k h l = or_lt 64 mask (2 ^ k) h (pow-lt l)

-- The bit as the code shifts it: nothing is shifted out.
pub with_shifted : (mask k : ℕ) → k < 64 → bit_or mask (1 * 2 ^ k % 2 ^ 64) ≡ with_bit mask k
unfolding with_bit
with_shifted mask k l = ap (bit_or mask) (shl_exact 1 k 64 (omega arith) (omega arith) ∙ one-mul (2 ^ k))
