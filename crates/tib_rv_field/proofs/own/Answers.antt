-- `tib_rv_field::own` meets its contract.
use borrow.Author.Tests.{lt-ltb, le-ltb}
use mathlib.Core.Path.{◌∙◌}
use Rattle.tib_rv_field.specs.Reading.{own}
use Rattle.tib_rv_field.proofs.own.Goals as goal

pub returns-then-m-ge121 : goal.returns-then-m-ge121
unfolding own
returns-then-m-ge121 c = c.following.ensures.value ∙ rw (le-ltb _ 0x79 c.if-m-ge121.true)

pub returns : goal.returns
unfolding own
returns c = rw (lt-ltb _ 0x79 c.if-m-ge121.false)
