-- The answers of the calls that take the octets of a field table, and the buffer after them.
use Rattle.std.specs.Prelude.{ℕ, Bool, cond, ◌&&◌, List, length, eqb, leb}
use Rattle.reading.specs.Reading.{message_limit}
use Rattle.reading.specs.Refusals as refusals
use Rattle.table.specs.Load.{load}
use Rattle.table.specs.declared.Table.{Table}
use Rattle.writer_state.specs.Sound.{sound}
use Rattle.writer_state.specs.Call.{Call, put_uint, put_int, put_octets, open_field, close_field}
use Rattle.writer_state.specs.Calls.{begun, started}
use Rattle.writer_state.specs.Answer.{answer, buffer}
use Rattle.writer_state.specs.declared.State.{State}
use Rattle.writer_state.specs.declared.Written.{Written}

-- The order of the refusals: what comes before the table is refused first, with `reason` at 0; then a table that the loader refuses, at its faulty
-- record; else the loaded table is used.
unfoldable pub by_octets : {A : Type 0} → Bool → ℕ → List ℕ → (Table → A) → (ℕ → ℕ → A) → A
by_octets passed reason octets under refuse =
    cond passed (cond (eqb (load octets).refusal 0) (under (load octets).table) (refuse (load octets).refusal (load octets).place)) (refuse reason 0)

-- A refused call returns the state that it was given, and a refused start a state of zeros.
unfoldable pub refused_at : State → ℕ → ℕ → Written
refused_at s reason place = record { refusal = reason; place = place; state = s }

unfoldable pub started_octets : List ℕ → ℕ → ℕ → ℕ → Written
started_octets octets revision number len =
    by_octets (leb len message_limit) refusals.too_long octets (λ t. started t revision number len) (refused_at (begun 0 0 0))

-- Whether a call with a buffer of this length can use a state: the state is sound, and start got a buffer of this length.
unfoldable pub usable : State → ℕ → Bool
usable s len = eqb len s.length && sound s

-- Whether a call can use a state. A call of open_field gets no buffer.
unfoldable pub usable_for : State → List ℕ → Call → Bool
usable_for s d (put_uint tag v) = usable s (length d)
usable_for s d (put_int tag z) = usable s (length d)
usable_for s d (put_octets tag xs) = usable s (length d)
usable_for s d (open_field tag) = sound s
usable_for s d close_field = usable s (length d)

unfoldable pub answer_octets : List ℕ → State → List ℕ → Call → Written
answer_octets octets s d c = by_octets (usable_for s d c) refusals.state octets (λ t. answer t s d c) (refused_at s)

unfoldable pub buffer_octets : List ℕ → State → List ℕ → Call → List ℕ
buffer_octets octets s d c = by_octets (usable_for s d c) refusals.state octets (λ t. buffer t s d c) (λ reason place. d)
