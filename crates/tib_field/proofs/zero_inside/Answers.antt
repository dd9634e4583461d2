-- `tib_field::zero_inside` meets its contract.
use native.Mathlib.Omega.{arith}
use mathlib.Core.Bool.{false}
use borrow.Author.Tests.{le-ltb}
use Rattle.tib_field.proofs.Zeros.{same_size, near_zero, near_none, near_and_far, no_places}
use Rattle.tib_field.proofs.zero_inside.Goals as goal

pub returns-then-end-gt1 : goal.returns-then-end-gt1
returns-then-end-gt1 c = same_size _ _ _ _ c.from-end.ensures c.zero_between.ensures

pub returns-else-end-gt1 : goal.returns-else-end-gt1
returns-else-end-gt1 c = rw (le-ltb 1 c.from-end.result c.if-end-gt1.false) (no_places _ _ _ (omega arith))

pub returns-then-zero_near : goal.returns-then-zero_near
returns-then-zero_near c = near_zero _ _ _ _ c.if-zero_near.true c.zero_near.ensures

pub zero_beyond-requires : goal.zero_beyond-requires
zero_beyond-requires c = (omega arith, omega arith, near_none _ _ _ _ c.if-zero_near.false c.zero_near.ensures c.from-end.ensures)

pub returns-then-end-gt17 : goal.returns-then-end-gt17
returns-then-end-gt17 c = same_size _ _ _ _ c.from-end.ensures c.zero_beyond.ensures

pub returns-else-end-gt17 : goal.returns-else-end-gt17
returns-else-end-gt17 c =
    rw (le-ltb 17 c.from-end.result c.if-end-gt17.false)
    (near_and_far _ false _ _ _ c.if-zero_near.false c.zero_near.ensures c.from-end.ensures (no_places _ _ _ c.if-end-gt17.false))
