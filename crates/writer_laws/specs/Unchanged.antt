-- What a refused call of a writer changes: nothing.
use Rattle.std.specs.Prelude.{ℕ, ◌≡◌, List}
use Rattle.table.specs.declared.Table.{Table}
use Rattle.writer_state.specs.Call.{Call, Writer}
use Rattle.writer_state.specs.declared.State.{State}

-- It returns the state that it was given, and changes no octet of the buffer.
pub record Unchanged (w : Writer) (t : Table) (s : State) (d : List ℕ) (c : Call) : Type 0 where
  pub same_state : (w.answer t s d c).state ≡ s
  pub same_buffer : w.buffer t s d c ≡ d
