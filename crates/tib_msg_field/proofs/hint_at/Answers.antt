-- `tib_msg_field::hint_at` meets its contract.
use mathlib.Core.Path.{sym, ◌∙◌}
use Rattle.tib_msg_field.specs.Reading.{hint_at}
use Rattle.tib_msg_field.proofs.hint_at.Goals as goal

pub returns-then-hinted : goal.returns-then-hinted
unfolding hint_at
returns-then-hinted c = c.read_hint.ensures ∙ rw (c.kind.ensures, sym c.hinted.ensures ∙ c.if-hinted.true)

pub returns-else-hinted : goal.returns-else-hinted
unfolding hint_at
returns-else-hinted c = rw (sym c.hinted.ensures ∙ c.if-hinted.false)
