-- `tib_field::zero_of_sixteen` meets its contract: at each turn the places passed are told.
use native.Mathlib.Omega.{arith}
use mathlib.Core.Path.{subst}
use Prim.Native.Nat.{ℕ, ◌+◌}
use mathlib.Core.Path.{◌≡◌}
use Rattle.tib_field.specs.internal.Zeros.{ZeroIn}
use Rattle.tib_field.proofs.Zeros.{none_from, place_told}
use Rattle.tib_field.proofs.zero_of_sixteen.Goals as goal

pub loop-i-init : goal.loop-i-init
loop-i-init c = none_from _ _ _

pub loop-i-preserved : goal.loop-i-preserved
loop-i-preserved c = place_told _ _ _ _ _ (omega arith) c.loop-i.invariant

pub returns : goal.returns
returns c =
    let h = c.loop-i.auto.i-end in
    let e : c.loop-i.i ≡ 16 = omega arith in
    subst (λ (i : ℕ). ZeroIn c.loop-i.z c.args.s.now c.args.at (c.args.at + i) (c.args.at + 16)) e c.loop-i.invariant
