-- A refused call leaves the state and the buffer as they were, on any table, state and buffer. So a run with refused calls among the
-- accepted ones is the run without them.
use Prim.Native.Nat.{ℕ}
use mathlib.Core.Path.{◌≡◌, refl}
use mathlib.Core.Bool.{Bool, true}
use mathlib.Core.List.{List}
use lib.ListN.{length}
use lib.Dec.{eqb}
use borrow.Author.Tests.{ne_eqb}
use Rattle.octets.specs.Number.{least_uint}
use Rattle.octets.specs.Signed.{least_int}
use Rattle.table.specs.declared.Table.{Table}
use Rattle.message.specs.Shortest.{field}
use Rattle.writer_state.specs.Calls.{call_result, buffer_after, meant, of_octets, readable, put, put_buffer, put_refusal, opening, open_refusal, closing, close_buffer, close_refusal, finished}
use Rattle.writer_state.specs.declared.State.{State}
use Rattle.writer_state.specs.Call.{Call, put_uint, put_int, put_octets, open_field, close_field}
use Rattle.writer_state.specs.Answer.{answer, buffer, writer}
use Rattle.table.specs.Entry.{kind_number}
use Rattle.writer_laws.specs.Unchanged.{Unchanged}

module _ (t : Table) (s : State) (d : List ℕ) where
  put_unchanged : (tag : ℕ) (agrees reads : Bool) (xs : List ℕ) → ((put t s tag agrees reads xs (length d)).refusal ≡ 0 → ⊥)
      → ((put t s tag agrees reads xs (length d)).state ≡ s) × (put_buffer t s tag agrees reads xs d ≡ d)
  unfolding put put_buffer call_result buffer_after
  put_unchanged tag agrees reads xs ne =
      let e = ne_eqb (put_refusal t s tag (length d) agrees reads (length (field tag xs))) 0 ne in
      (rw e refl, rw e refl)

  pub refused_unchanged : (c : Call) → ((answer t s d c).refusal ≡ 0 → ⊥) → Unchanged writer t s d c
  unfolding answer buffer opening closing close_buffer call_result buffer_after
  refused_unchanged (put_uint tag v) ne =
      let u = put_unchanged tag (eqb (kind_number (meant t s tag)) 1) true (least_uint v) ne in
      record { same_state = u.0; same_buffer = u.1 }
  refused_unchanged (put_int tag z) ne =
      let u = put_unchanged tag (eqb (kind_number (meant t s tag)) 2) true (least_int z) ne in
      record { same_state = u.0; same_buffer = u.1 }
  refused_unchanged (put_octets tag xs) ne =
      let u = put_unchanged tag (of_octets (kind_number (meant t s tag))) (readable (kind_number (meant t s tag)) xs) xs ne in
      record { same_state = u.0; same_buffer = u.1 }
  refused_unchanged (open_field tag) ne =
      let e = ne_eqb (open_refusal t s tag (eqb (kind_number (meant t s tag)) 5)) 0 ne in
      record { same_state = rw e refl; same_buffer = refl }
  refused_unchanged close_field ne =
      let e = ne_eqb (close_refusal t s (length d)) 0 ne in
      record { same_state = rw e refl; same_buffer = rw e refl }

-- Finish returns the state that it was given, refused or not.
pub finish_unchanged : (s : State) → (finished s).state ≡ s
unfolding finished
finish_unchanged s = refl
