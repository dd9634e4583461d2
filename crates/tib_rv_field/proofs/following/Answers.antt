-- `tib_rv_field::following` meets its contract.
use borrow.Author.Tests.{eq-eqb, ne_eqb}
use Rattle.tib_rv_field.specs.Reading.{following}
use native.Mathlib.Omega.{arith}
use Rattle.tib_rv_field.proofs.following.Goals as goal

pub returns-then-m-eq121 : goal.returns-then-m-eq121
unfolding following
returns-then-m-eq121 c = record { value = rw (eq-eqb _ 0x79 c.if-m-eq121.true); upper_bound = omega arith }

pub returns-then-m-eq122 : goal.returns-then-m-eq122
unfolding following
returns-then-m-eq122 c = record { value = rw (ne_eqb _ 0x79 c.if-m-eq121.false, eq-eqb _ 0x7a c.if-m-eq122.true); upper_bound = omega arith }

pub returns : goal.returns
unfolding following
returns c = record { value = rw (ne_eqb _ 0x79 c.if-m-eq121.false, ne_eqb _ 0x7a c.if-m-eq122.false); upper_bound = omega arith }
