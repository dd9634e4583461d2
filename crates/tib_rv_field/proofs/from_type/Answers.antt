-- `tib_rv_field::from_type` meets its contract.
use mathlib.Core.Path.{ap, ◌∙◌}
use Rattle.tib_rv_field.specs.internal.Measured.{measured}
use Rattle.tib_rv_field.proofs.StepTests.{type_cut, type_whole}
use Rattle.tib_rv_field.proofs.from_type.Goals as goal

pub returns-then-s-eq0 : goal.returns-then-s-eq0
unfolding measured
returns-then-s-eq0 c = ap measured (type_cut c.args.n c.args.s.now c.if-s-eq0.true)

pub returns : goal.returns
returns c = c.from_size.ensures ∙ ap measured (type_whole c.args.n c.args.s.now c.if-s-eq0.false)
