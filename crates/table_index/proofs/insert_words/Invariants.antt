-- `insert_words` inserts the words one by one, up to the first that is not insertable. Before each iteration of the inner loop the rest of
-- the chain decides whether the word is insertable.
use Prim.Native.Nat.{◌+◌, ◌*◌, ◌-◌, ◌%◌, min}
use mathlib.Core.Path.{◌≡◌}
use Rattle.table_index.specs.internal.Cells.{chase, search}
use Rattle.table_index.proofs.InsertLoop.{InsertWordsLoop}
use Rattle.table_index.proofs.insert_words.Given as goal

abbrev pub invariant-loop-c : goal.invariant-loop-c
invariant-loop-c l = search l.cells l.key ≡ chase 64 l.cells l.key l.c

abbrev pub decreases-loop-c : goal.decreases-loop-c
decreases-loop-c l = l.c % 64 * 2 + min l.c 1

abbrev pub invariant-words : goal.invariant-words
invariant-words l = InsertWordsLoop l.revision l.words l.initial.cells l.n l.cells

abbrev pub decreases-words : goal.decreases-words
decreases-words l = l.most - l.n
