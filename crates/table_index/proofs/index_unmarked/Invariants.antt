-- `index_unmarked` inserts records of eight octets one by one. It stops at the first one that is faulty or has a mark.
use Prim.Native.Nat.{ℕ, ◌*◌}
use Rattle.table_index.specs.internal.Pass.{InsertedRecords}
use Rattle.table_index.proofs.index_unmarked.Given as goal

abbrev pub invariant-loop-n : goal.invariant-loop-n
invariant-loop-n l = (revision : ℕ) → InsertedRecords revision l.table l.initial.cells l.n (l.n * 8) l.cells
