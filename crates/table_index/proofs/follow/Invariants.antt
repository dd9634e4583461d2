-- `follow` returns what its definition says: in each iteration the chain from the current cell decides.
use Prim.Native.Nat.{◌+◌, ◌*◌, ◌%◌, min}
use mathlib.Core.Path.{◌≡◌}
use Rattle.table_index.specs.internal.Cells.{chase}
use Rattle.table_index.proofs.follow.Given as goal

abbrev pub invariant-loop-c : goal.invariant-loop-c
invariant-loop-c l = chase 64 l.cells l.key l.first ≡ chase 64 l.cells l.key l.c

abbrev pub decreases-loop-c : goal.decreases-loop-c
decreases-loop-c l = l.c % 64 * 2 + min l.c 1
