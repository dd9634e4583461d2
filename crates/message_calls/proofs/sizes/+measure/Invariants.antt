use Rattle.std.proofs.Common.{length, ◌-◌}
use Rattle.table_index.specs.internal.Cells.{indexed}
use Rattle.message_calls.proofs.MeasureLoop.{Counted}
use Rattle.message_calls.proofs.sizes.+measure.Given as goal

-- proposed from what the function passes where it calls itself
abbrev pub decreases-measure : goal.decreases-measure
decreases-measure l = l.levels

abbrev pub invariant-loop-t : goal.invariant-loop-t
invariant-loop-t l = Counted (indexed l.cells) (l.levels - 1) l.number l.s l.i l.size

abbrev pub decreases-loop-t : goal.decreases-loop-t
decreases-loop-t l = length l.s - l.i
