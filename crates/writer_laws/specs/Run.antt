-- Runs of the writer: a start and the calls after it, each on the state and the buffer after the call before it, all accepted.
use Rattle.std.specs.Prelude.{ℕ, ◌^◌, ◌<◌, ◌≡◌, cond, List, length, eqb}
use Rattle.std.specs.Int.Signed.{mag}
use Rattle.table.specs.Entry.{kind_number}
use Rattle.table.specs.Schema.{schema}
use Rattle.table.specs.declared.Table.{Table}
use Rattle.message.specs.Tree.{end, leaf, Value, uint, int, string, text}
use Rattle.writer_state.specs.Call.{Call, put_uint, put_int, put_octets, open_field, close_field, Writer}
use Rattle.writer_state.specs.declared.State.{State}
use Rattle.writer_laws.specs.Given.{Given, message, opened, on_fields, closed, innermost}

-- The values that the calls take: a uint of 64 bits, and an int of 64 bits, from minus 2 to the power 63 on (`mag` of a number below
-- zero is one less than its size). All octets are accepted.
unfoldable pub InRange : Call → Type 0
InRange (put_uint tag v) = v < 2 ^ 64
InRange (put_int tag z) = mag z < 2 ^ 63
InRange (put_octets tag xs) = Unit {0}
InRange (open_field tag) = Unit {0}
InRange close_field = Unit {0}

-- The number of the kind that a tag has in the innermost message, under a table, a revision and the number of the outermost message.
unfoldable pub kind_in : Table → ℕ → ℕ → Given → ℕ → ℕ
kind_in t revision number g tag = kind_number ((schema revision t).means (innermost (schema revision t) number g) tag)

-- Octets as a value of a kind: text for kind 4, else string.
unfoldable pub octets_as : ℕ → List ℕ → Value
octets_as kind xs = cond (eqb kind 4) (text xs) (string xs)

-- The fields given after a call, under a table, a revision and the number of the outermost message.
unfoldable pub giving : Table → ℕ → ℕ → Call → Given → Given
giving t revision number (put_uint tag v) g = on_fields (leaf tag (uint v)) g
giving t revision number (put_int tag z) g = on_fields (leaf tag (int z)) g
giving t revision number (put_octets tag xs) g = on_fields (leaf tag (octets_as (kind_in t revision number g tag) xs)) g
giving t revision number (open_field tag) g = opened tag end g
giving t revision number close_field g = closed g

-- A run of a writer under a table and a revision, with a message number, over a lent buffer: the state and the buffer after its last call, and
-- the fields that its calls gave.
pub data Run (w : Writer) (t : Table) (revision number : ℕ) (lent : List ℕ) : State → List ℕ → Given → Type 0 where
  start : (w.start t revision number (length lent)).refusal ≡ 0
      → Run w t revision number lent (w.start t revision number (length lent)).state lent (message end)
  next : (s : State) (d : List ℕ) (g : Given) → Run w t revision number lent s d g → (c : Call) → InRange c → (w.answer t s d c).refusal ≡ 0
      → Run w t revision number lent (w.answer t s d c).state (w.buffer t s d c) (giving t revision number c g)
