-- `index_from` inserts the records one by one, up to the first faulty one.
use Prim.Native.Nat.{ℕ, ◌*◌, ◌≤◌}
use mathlib.Core.Path.{◌≡◌}
use mathlib.Core.List.{List}
use lib.ListN.{length}
use Rattle.table.specs.Load.{place_at}
use Rattle.table_index.specs.internal.Pass.{InsertedRecords}
use Rattle.table_index.proofs.index_from.Given as goal

-- The records are inserted, whichever cells were there before the first one; and `at` is the place after them.
pub record Inserting (revision : ℕ) (s : List ℕ) (first : ℕ) (cells₀ : List ℕ) (n at : ℕ) (cells : List ℕ) : Type 0 where
  pub inserted : (zeros : List ℕ) → InsertedRecords revision s zeros first (first * 8) cells₀ → InsertedRecords revision s zeros n at cells
  pub place : at ≡ place_at s n
  pub within : at ≤ length s

abbrev pub invariant-loop-n : goal.invariant-loop-n
invariant-loop-n l = Inserting l.revision l.table l.first l.initial.cells l.n l.at l.cells
