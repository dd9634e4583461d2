-- The calls of the writer, and the functions that describe a writer.
use Rattle.std.specs.Prelude.{ℕ, List, ℤ}
use Rattle.table.specs.declared.Table.{Table}
use Rattle.writer_state.specs.declared.State.{State}
use Rattle.writer_state.specs.declared.Written.{Written}
use Rattle.writer_state.specs.Finished.{Finished}

-- A call between start and finish, with what the caller gives beside the table, the state and the buffer: a tag, and a value.
pub data Call : Type 0 where
  put_uint : ℕ → ℕ → Call
  put_int : ℕ → ℤ → Call
  put_octets : ℕ → List ℕ → Call
  open_field : ℕ → Call
  close_field : Call

-- The answers of a writer. Start takes a table, a revision, a message number and the length of the lent buffer. A call takes a table, a state and
-- a buffer; `buffer` is the buffer after it. Finish takes a state.
pub record Writer : Type 0 where
  pub start : Table → ℕ → ℕ → ℕ → Written
  pub answer : Table → State → List ℕ → Call → Written
  pub buffer : Table → State → List ℕ → Call → List ℕ
  pub finish : State → Finished
