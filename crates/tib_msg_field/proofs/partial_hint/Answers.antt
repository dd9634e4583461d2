-- `tib_msg_field::partial_hint` meets its contract.
use borrow.Author.Tests.{eq-eqb, ne_eqb}
use Rattle.tib_msg_field.specs.Reading.{partial_hint}
use Rattle.tib_msg_field.proofs.partial_hint.Goals as goal

pub returns-then-t-eq6 : goal.returns-then-t-eq6
unfolding partial_hint
returns-then-t-eq6 c = rw (eq-eqb _ 6 c.if-t-eq6.true)

pub returns-else-t-eq6 : goal.returns-else-t-eq6
unfolding partial_hint
returns-else-t-eq6 c = rw (ne_eqb _ 6 c.if-t-eq6.false)
