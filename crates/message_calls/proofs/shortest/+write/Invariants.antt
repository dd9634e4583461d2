use Rattle.std.proofs.Common.{◌-◌, length}
use Rattle.table_index.specs.internal.Cells.{indexed}
use Rattle.message_calls.proofs.WriteLoop.{Progress}
use Rattle.message_calls.proofs.shortest.+write.Given as goal

-- proposed from what the function passes where it calls itself
abbrev pub decreases-write : goal.decreases-write
decreases-write l = l.levels

abbrev pub invariant-loop-t : goal.invariant-loop-t
invariant-loop-t l = Progress (indexed l.cells) (l.levels - 1) l.number l.s l.initial.out l.to l.i l.place l.out

abbrev pub decreases-loop-t : goal.decreases-loop-t
decreases-loop-t l = length l.s - l.i
