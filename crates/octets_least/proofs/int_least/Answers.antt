-- `octets_least::int_least` meets its contract.
use mathlib.Core.Path.{◌≡◌, sym, ap, ◌∙◌}
use lib.IntN.{negsuc}
use Rattle.octets.specs.internal.Least.{int_width_bits}
use Rattle.numbers.proofs.Signs.{below_zero_is, from_zero}
use Rattle.octets_least.proofs.Signs.{above_is}
use Rattle.octets_least.proofs.int_least.Goals as goal
use Rattle.octets_least.proofs.int_least.Goals.{After-below_zero}

-- A number below zero is the one that stands that far below.
below : (c : After-below_zero) → c.args.z ≡ negsuc c.below_zero.result
below c =
    below_zero_is c.args.z c.below_zero.result c.ranges.z c.if-z-lt0.true c.below_zero.ensures

pub least_below-requires : goal.least_below-requires
least_below-requires c = (rw (below (goal.at.least_below-requires c).After-below_zero) at c.ranges.z).sfits

pub returns-then-z-lt0 : goal.returns-then-z-lt0
returns-then-z-lt0 c = c.least_below.ensures ∙ ap int_width_bits (sym (below (goal.at.returns-then-z-lt0 c).After-below_zero))

pub overflow_cast-v : goal.overflow_cast-v
overflow_cast-v c = (from_zero c.args.z c.ranges.z c.if-z-lt0.false).cast

pub overflow_mul-v : goal.overflow_mul-v
overflow_mul-v c = record { fits = (from_zero c.args.z c.ranges.z c.if-z-lt0.false).twice }

pub returns : goal.returns
returns c =
    above_is c.args.z _ _ (from_zero c.args.z c.ranges.z c.if-z-lt0.false).same
    c.width.ensures
