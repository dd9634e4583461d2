-- The answer of each call between start and finish, and the buffer after it. The contracts of the five calls cite these definitions.
use Rattle.std.specs.Prelude.{ℕ, true, List, length, eqb}
use Rattle.octets.specs.Number.{least_uint}
use Rattle.octets.specs.Signed.{least_int}
use Rattle.table.specs.Entry.{kind_number}
use Rattle.table.specs.declared.Table.{Table}
use Rattle.writer_state.specs.Call.{Call, put_uint, put_int, put_octets, open_field, close_field, Writer}
use Rattle.writer_state.specs.Calls.{meant, of_octets, readable, put, put_buffer, opening, closing, close_buffer, started, finished}
use Rattle.writer_state.specs.declared.State.{State}
use Rattle.writer_state.specs.declared.Written.{Written}

-- The answer on a table, a state and a buffer.
unfoldable pub answer : Table → State → List ℕ → Call → Written
answer t s d (put_uint tag v) = put t s tag (eqb (kind_number (meant t s tag)) 1) true (least_uint v) (length d)
answer t s d (put_int tag z) = put t s tag (eqb (kind_number (meant t s tag)) 2) true (least_int z) (length d)
answer t s d (put_octets tag xs) =
    put t s tag (of_octets (kind_number (meant t s tag))) (readable (kind_number (meant t s tag)) xs) xs (length d)
answer t s d (open_field tag) = opening t s tag
answer t s d close_field = closing t s (length d)

-- The buffer after the call. A call of open_field gets no buffer.
unfoldable pub buffer : Table → State → List ℕ → Call → List ℕ
buffer t s d (put_uint tag v) = put_buffer t s tag (eqb (kind_number (meant t s tag)) 1) true (least_uint v) d
buffer t s d (put_int tag z) = put_buffer t s tag (eqb (kind_number (meant t s tag)) 2) true (least_int z) d
buffer t s d (put_octets tag xs) =
    put_buffer t s tag (of_octets (kind_number (meant t s tag))) (readable (kind_number (meant t s tag)) xs) xs d
buffer t s d (open_field tag) = d
buffer t s d close_field = close_buffer t s d

-- The writer of this library.
abbrev pub writer : Writer
writer = record { start = started; answer = answer; buffer = buffer; finish = finished }
