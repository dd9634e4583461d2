-- `tib_msg::real_shown` meets its contract.
use mathlib.Core.Path.{◌∙◌}
use borrow.Author.Tests.{eq-eqb, ne_eqb}
use Rattle.tib_msg.specs.CheckAndField.{real_shown}
use Rattle.tib_msg.proofs.real_shown.Goals as goal

pub returns-then-k-eq7 : goal.returns-then-k-eq7
unfolding real_shown
returns-then-k-eq7 c = c.real.ensures ∙ rw (eq-eqb _ 7 c.if-k-eq7.true)

pub returns-else-k-eq7 : goal.returns-else-k-eq7
unfolding real_shown
returns-else-k-eq7 c = c.no_real.ensures ∙ rw (ne_eqb _ 7 c.if-k-eq7.false)
