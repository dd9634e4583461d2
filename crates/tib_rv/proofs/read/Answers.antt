-- `tib_rv::read` meets its contract.
use mathlib.Core.Path.{◌∙◌}
use Rattle.tib_rv.proofs.Headers.{too_long_lem, not_too_long}
use Rattle.tib_rv.proofs.read.Goals as goal

pub returns-then-s-gt-MESSAGE_LIMIT : goal.returns-then-s-gt-MESSAGE_LIMIT
returns-then-s-gt-MESSAGE_LIMIT c = rw c.at.ensures (too_long_lem c.args.s.now c.if-s-gt-MESSAGE_LIMIT.true)

pub returns : goal.returns
returns c = c.message.ensures ∙ not_too_long c.args.s.now c.if-s-gt-MESSAGE_LIMIT.false
