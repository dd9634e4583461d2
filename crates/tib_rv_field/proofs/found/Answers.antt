-- `tib_rv_field::found` meets its contract.
use Prim.Native.Nat.{ℕ}
use native.Mathlib.Omega.{arith}
use mathlib.Core.Path.{ap}
use borrow.Author.Tests.{eq-eqb, ne_eqb}
use Rattle.tib_field.specs.Steps.{Over as Whole}
use Rattle.tib_rv_field.specs.declared.Extent.TheVariants.{Plain, Holder}
use Rattle.tib_rv_field.specs.Reading.{lead, total, found}
use Rattle.tib_rv_field.specs.internal.Measured.{measured}
use Rattle.tib_rv_field.proofs.found.Goals as goal

pub returns-then-c-eq1 : goal.returns-then-c-eq1
unfolding found measured total lead
returns-then-c-eq1 c = rw (eq-eqb _ 1 c.if-c-eq1.true) (ap (λ (x : ℕ). Whole (Holder x)) (omega arith))

pub returns : goal.returns
unfolding found measured total lead
returns c = rw (ne_eqb _ 1 c.if-c-eq1.false, ← c.following.ensures.value, ← c.own.ensures) (ap (λ (x : ℕ). Whole (Plain x)) (omega arith))
