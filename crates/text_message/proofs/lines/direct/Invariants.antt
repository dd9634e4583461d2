-- The fields before i are counted.
use Rattle.std.proofs.Common.{◌-◌, length}
use Rattle.table_index.specs.internal.Cells.{indexed}
use Rattle.text_message.proofs.CountLoop.{Counted}
use Rattle.text_message.proofs.lines.direct.Given as goal

abbrev pub invariant-loop-end : goal.invariant-loop-end
invariant-loop-end l = Counted (indexed l.cells) l.number l.s l.i l.n

abbrev pub decreases-loop-end : goal.decreases-loop-end
decreases-loop-end l = length l.s - l.i
