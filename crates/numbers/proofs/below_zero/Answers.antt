-- `numbers::below_zero` meets its contract.
use Rattle.numbers.proofs.Signs.{below_zero_lem, from_zero, none_below}
use Rattle.numbers.proofs.below_zero.Goals as goal

pub overflow_sub-result : goal.overflow_sub-result
overflow_sub-result c = (below_zero_lem c.args.z c.ranges.z c.if-z-lt0.true).fits

pub overflow_cast-result : goal.overflow_cast-result
overflow_cast-result c = (below_zero_lem c.args.z c.ranges.z c.if-z-lt0.true).cast

pub returns-then-z-lt0 : goal.returns-then-z-lt0
returns-then-z-lt0 c = (below_zero_lem c.args.z c.ranges.z c.if-z-lt0.true).same

pub returns-else-z-lt0 : goal.returns-else-z-lt0
returns-else-z-lt0 c = none_below c.args.z _ (from_zero c.args.z c.ranges.z c.if-z-lt0.false).same
