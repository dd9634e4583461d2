-- The lines of the fields before i are printed.
use Rattle.std.proofs.Common.{◌-◌, length}
use Rattle.table_index.specs.internal.Cells.{indexed}
use Rattle.text_message.proofs.WriteLoop.{Progress}
use Rattle.text_message.proofs.lines.+write.Given as goal

abbrev pub decreases-write : goal.decreases-write
decreases-write l = l.levels

abbrev pub invariant-loop-tag : goal.invariant-loop-tag
invariant-loop-tag l = Progress (indexed l.cells) l.levels l.number l.s l.initial.w l.i l.w

abbrev pub decreases-loop-tag : goal.decreases-loop-tag
decreases-loop-tag l = length l.s - l.i
