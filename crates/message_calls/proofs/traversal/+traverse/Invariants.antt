-- `traverse` keeps the progress of `Progress`, and each turn is nearer to the end of the message.
use Rattle.std.proofs.Common.{◌-◌, length}
use Rattle.table_index.specs.internal.Cells.{indexed}
use Rattle.message.specs.Reading.{message_from}
use Rattle.message_calls.proofs.Progress.{Progress}
use Rattle.message_calls.proofs.traversal.+traverse.Given as goal

abbrev pub decreases-traverse : goal.decreases-traverse
decreases-traverse l = l.levels

abbrev pub invariant-loop-end : goal.invariant-loop-end
invariant-loop-end l =
    Progress l.fn.index.cells (l.fn.levels - 1) (message_from (indexed l.fn.index.cells) (l.fn.levels - 1)) l.fn.n l.fn.at l.fn.s l.seen l.i
    l.found.counts.fields l.found.counts.depth l.found.shortest

abbrev pub decreases-loop-end : goal.decreases-loop-end
decreases-loop-end l = length l.fn.s - l.i
