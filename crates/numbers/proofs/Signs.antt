-- What the machine makes of a signed number, by its sign.
use Prim.Native.Nat.{ℕ, suc, ◌*◌, ◌-◌, ◌^◌, ◌<◌}
use native.Mathlib.Omega.{arith}
use mathlib.Core.Path.{◌≡◌, refl, sym, ap, ◌∙◌}
use mathlib.Core.Bool.{true, false, true≢false, false≢true}
use lib.Dec.{T, ltb}
use lib.IntN.{ℤ, pos, negsuc, nat_abs, ◌-ℤ◌}
use lib.Signed.{lt_z, non_neg}
use mir.Syntax.{w64}
use mir.Val.{Fits, SFits, to_z, of_z}
use mir.ValLaws.{to_z-of_z, to_z_pos}
use borrow.Author.Tests.{le-ltb}
use Rattle.numbers.specs.internal.Signed.{below_zero}

-- ---- a number below zero

-- `-1 - z` for the number z whose magnitude is k + 1.
step_up : (k : ℕ) → negsuc 0 -ℤ negsuc k ≡ pos k
step_up k =
    let e : suc k - 1 ≡ k = omega arith in
    rw (le-ltb (suc k) 1 (omega arith), e)

module _ (k : ℕ) (h : k < 2 ^ 63) where
  stepped : negsuc 0 -ℤ to_z w64 (of_z w64 (negsuc k)) ≡ pos k
  stepped = ap (λ (z : ℤ). negsuc 0 -ℤ z) (to_z-of_z w64 (negsuc k) (record { sfits = h })) ∙ step_up k

  read_back : to_z w64 (of_z w64 (negsuc 0 -ℤ to_z w64 (of_z w64 (negsuc k)))) ≡ pos k
  read_back = ap (λ (z : ℤ). to_z w64 (of_z w64 z)) stepped ∙ to_z_pos w64 k h

-- The machine's test answers that no number from 0 on is below zero.
not_below_lem : (v : ℕ) → SFits w64 (pos v) → lt_z (to_z w64 (of_z w64 (pos v))) (pos 0) ≡ true → ⊥
not_below_lem v f e =
    let g : ltb v 0 ≡ true = rw (to_z-of_z w64 (pos v) f) at e in
    false≢true (sym (le-ltb v 0 (omega arith)) ∙ g)

-- What the machine makes of z and of m, which is `-1 - z`, for z below zero.
pub record BelowZero (z m : ℤ) : Type 0 where
  pub is : z ≡ negsuc (below_zero z)
  pub fits : SFits w64 (negsuc 0 -ℤ to_z w64 (of_z w64 z))
  pub cast : T (non_neg m) × Fits w64 (nat_abs m)
  pub same : nat_abs m ≡ below_zero z

pub below_zero_lem : (z : ℤ) → SFits w64 z → lt_z (to_z w64 (of_z w64 z)) (pos 0) ≡ true
    → BelowZero z (to_z w64 (of_z w64 (negsuc 0 -ℤ to_z w64 (of_z w64 z))))
unfolding below_zero
below_zero_lem (pos v) f e = absurd (not_below_lem v f e)
below_zero_lem (negsuc k) f e =
    let h = f.sfits in
    rw (read_back k h)
    (record { is = refl; fits = rw (stepped k h) (record { sfits = h }); cast = (tt, record { fits = omega arith }); same = refl })

-- A number below zero by what `below_zero` answers for it.
pub below_zero_is : (z : ℤ) (r : ℕ) → SFits w64 z → lt_z (to_z w64 (of_z w64 z)) (pos 0) ≡ true → r ≡ below_zero (to_z w64 (of_z w64 z)) → z ≡ negsuc r
below_zero_is z r f e q = (below_zero_lem z f e).is ∙ ap negsuc (sym (q ∙ ap below_zero (to_z-of_z w64 z f)))

-- ---- a number from 0 on

-- What the machine makes of z and of m, which is `z as u64`, for z from 0 on.
pub record FromZero (z : ℤ) (m : ℤ) : Type 0 where
  pub cast : T (non_neg m) × Fits w64 (nat_abs m)
  pub twice : 2 * nat_abs m < 2 ^ 64
  pub same : z ≡ pos (nat_abs m)

pub from_zero : (z : ℤ) → SFits w64 z → lt_z (to_z w64 (of_z w64 z)) (pos 0) ≡ false → FromZero z (to_z w64 (of_z w64 z))
from_zero (pos v) f e =
    let h = f.sfits in
    rw (to_z_pos w64 v h) (record { cast = (tt, record { fits = omega arith }); twice = omega arith; same = refl })
from_zero (negsuc k) f e = absurd (true≢false (rw (to_z-of_z w64 (negsuc k) f) at e))

pub none_below : (z : ℤ) (v : ℕ) → z ≡ pos v → 0 ≡ below_zero z
unfolding below_zero
none_below z v e = rw e refl
