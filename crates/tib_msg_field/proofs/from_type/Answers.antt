-- `tib_msg_field::from_type` meets its contract.
use mathlib.Core.Path.{sym, ap, ◌∙◌}
use Rattle.tib_field.specs.internal.Measured.{measured}
use Rattle.tib_msg_field.specs.Reading.{total}
use Rattle.tib_msg_field.proofs.StepTests.{type_cut, type_bad, type_good}
use Rattle.tib_msg_field.proofs.from_type.Goals as goal

pub returns-then-s-eq0 : goal.returns-then-s-eq0
unfolding measured
returns-then-s-eq0 c = ap (measured total) (type_cut c.args.n c.args.s.now c.if-s-eq0.true)

pub returns-then-type_allowed : goal.returns-then-type_allowed
returns-then-type_allowed c =
    c.from_size.ensures
    ∙ ap (measured total) (type_good c.args.n c.args.s.now c.if-s-eq0.false (sym c.type_allowed.ensures ∙ c.if-type_allowed.true))

pub returns-else-type_allowed : goal.returns-else-type_allowed
unfolding measured
returns-else-type_allowed c = ap (measured total) (type_bad c.args.n c.args.s.now c.if-s-eq0.false (sym c.type_allowed.ensures ∙ c.if-type_allowed.false))
