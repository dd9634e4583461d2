-- `tib_field::zero_near` meets its contract: at each turn the places passed are told.
use native.Mathlib.Omega.{arith}
use mathlib.Core.Path.{subst}
use Prim.Native.Nat.{ℕ}
use mathlib.Core.Path.{◌≡◌}
use Rattle.tib_field.specs.internal.Zeros.{ZeroIn}
use Rattle.tib_field.proofs.Zeros.{none_yet, octet_told}
use Rattle.tib_field.proofs.zero_near.Goals as goal

pub loop-i-init : goal.loop-i-init
loop-i-init c = none_yet _ _

pub loop-i-preserved : goal.loop-i-preserved
loop-i-preserved c = octet_told _ _ _ _ _ c.loop-i.auto.i c.loop-i.invariant c.zero_below-z.ensures

pub returns : goal.returns
returns c =
    let h = c.loop-i.auto.i-end (omega arith) in
    let e : c.loop-i.i ≡ 17 = omega arith in
    subst (λ (i : ℕ). ZeroIn c.loop-i.z c.args.s.now 1 i c.args.n) e c.loop-i.invariant
