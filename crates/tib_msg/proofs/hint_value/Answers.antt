-- `tib_msg::hint_value` meets its contract.
use mathlib.Core.Path.{◌∙◌}
use Rattle.tib_msg.proofs.Shows.{value_none, value_array, value_partial, value_other}
use Rattle.tib_msg.proofs.hint_value.Goals as goal

pub returns-then-s-lt2 : goal.returns-then-s-lt2
returns-then-s-lt2 c = value_none c.args.k c.args.s.now c.if-s-lt2.true

pub returns-then-k-eq8 : goal.returns-then-k-eq8
returns-then-k-eq8 c = c.from.ensures ∙ value_array c.args.k c.args.s.now c.if-k-eq8.true

pub returns-then-k-eq9 : goal.returns-then-k-eq9
returns-then-k-eq9 c = c.from-then-k-eq9.ensures ∙ value_partial c.args.k c.args.s.now c.if-k-eq8.false c.if-k-eq9.true

pub returns : goal.returns
returns c = c.uint.ensures ∙ value_other c.args.k c.args.s.now c.if-k-eq8.false c.if-k-eq9.false c.requires
