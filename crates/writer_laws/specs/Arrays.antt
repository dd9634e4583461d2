-- Demand 2 for the calls that C programs make: with the octets of a table, and an array that holds the state.
use Rattle.std.specs.Prelude.{ℕ, ◌≡◌, false, List, length, replicate, leb}
use Rattle.reading.specs.Reading.{message_limit}
use Rattle.reading.specs.Refusals as refusals
use Rattle.table.specs.Load.{load}
use Rattle.message.specs.Tree.{end}
use Rattle.message_calls.specs.Check.{check}
use Rattle.message_calls.specs.Calls.{check_octets}
use Rattle.writer_state.specs.Call.{Call}
use Rattle.writer_state.specs.ByOctets.{by_octets}
use Rattle.writer_words.specs.Words.{state_words, holds, state_of, start_words, call_words, call_buffer, finish_words}
use Rattle.writer_laws.specs.Given.{Given, message}
use Rattle.writer_laws.specs.Run.{InRange, giving}
use Rattle.writer_laws.specs.Written.{written, AtEnd}
use Rattle.writer_laws.specs.Refusal.{refusal_of_start, refusal_of_call, refusal_of_finish}
use Rattle.writer_laws.specs.Demand2.{Demand2}

-- A run of such calls over a lent buffer, all accepted: the array and the buffer after its last call, and the fields that its calls gave. The array
-- that start gets may hold any numbers.
pub data ArrayRun (octets : List ℕ) (revision number : ℕ) (lent : List ℕ) : List ℕ → List ℕ → Given → Type 0 where
  start : (ws : List ℕ) → (start_words octets revision number (length lent) ws).refusal ≡ 0
      → ArrayRun octets revision number lent (start_words octets revision number (length lent) ws).array lent (message end)
  next : (ws d : List ℕ) (g : Given) → ArrayRun octets revision number lent ws d g → (c : Call) → InRange c → (call_words octets ws d c).refusal ≡ 0
      → ArrayRun octets revision number lent (call_words octets ws d c).array (call_buffer octets ws d c) (giving (load octets).table revision number c g)

-- The refusal of start with an array of the right length: a buffer that is too long, then the faulty record of the table, then the refusals under
-- the loaded table.
unfoldable pub refusal_of_array_start : List ℕ → ℕ → ℕ → ℕ → ℕ
refusal_of_array_start octets revision number len =
    by_octets (leb len message_limit) refusals.too_long octets (λ t. refusal_of_start t revision number len) (λ reason place. reason)

pub record ArrayDemand2Holds : Type 0 where
  pub starts : (octets : List ℕ) (revision number len : ℕ) (ws : List ℕ) → length ws ≡ state_words
      → (start_words octets revision number len ws).refusal ≡ refusal_of_array_start octets revision number len
  -- After a run the next call, or finish, is refused just for the reasons of specs/Refusal.antt, at place 0.
  pub calls : (octets : List ℕ) (revision number : ℕ) (lent ws d : List ℕ) (g : Given) → ArrayRun octets revision number lent ws d g → (c : Call)
      → ((call_words octets ws d c).refusal ≡ refusal_of_call (load octets).table revision number (length lent) g c) × ((call_words octets ws d c).place ≡ 0)
  pub finish : (octets : List ℕ) (revision number : ℕ) (lent ws d : List ℕ) (g : Given) → ArrayRun octets revision number lent ws d g
      → (finish_words ws).refusal ≡ refusal_of_finish g
  -- The octets of the fields given stand at the buffer's end, while fields are open too.
  pub stand : (octets : List ℕ) (revision number : ℕ) (lent ws d : List ℕ) (g : Given) → ArrayRun octets revision number lent ws d g
      → AtEnd lent (state_of ws).start (written g) d
  -- A run needs a table that the loader accepts. If finish is accepted after it, demand 2 holds under the loaded table, and the check by the octets of
  -- the table accepts the message.
  pub loads : (octets : List ℕ) (revision number : ℕ) (lent ws after : List ℕ) (given : Given) → ArrayRun octets revision number lent ws after given
      → (load octets).refusal ≡ 0
  pub runs : (octets : List ℕ) (revision number : ℕ) (lent ws after : List ℕ) (given : Given) → ArrayRun octets revision number lent ws after given
      → (finish_words ws).refusal ≡ 0 → Demand2 check (load octets).table revision number lent (finish_words ws).start after given
  pub checked : (octets : List ℕ) (revision number : ℕ) (lent ws after : List ℕ) (given : Given) (run : ArrayRun octets revision number lent ws after given)
      (e : (finish_words ws).refusal ≡ 0) → (check_octets octets revision number (runs octets revision number lent ws after given run e).octets).refusal ≡ 0
  -- For every table, array and buffer, a refused call changes neither the array nor the buffer.
  pub refused : (octets ws d : List ℕ) (c : Call) → ((call_words octets ws d c).refusal ≡ 0 → ⊥)
      → ((call_words octets ws d c).array ≡ ws) × (call_buffer octets ws d c ≡ d)
  -- An array that holds no state is refused with `state` by every call but start,
  pub no_state : (octets ws d : List ℕ) (c : Call) → holds ws ≡ false → (call_words octets ws d c).refusal ≡ refusals.state
  pub finish_no_state : (ws : List ℕ) → holds ws ≡ false → (finish_words ws).refusal ≡ refusals.state
  -- and so is one of another length, by start too.
  pub other_length : (octets ws d : List ℕ) (c : Call) → (length ws ≡ state_words → ⊥) → (call_words octets ws d c).refusal ≡ refusals.state
  pub start_other : (octets : List ℕ) (revision number len : ℕ) (ws : List ℕ) → (length ws ≡ state_words → ⊥)
      → (start_words octets revision number len ws).refusal ≡ refusals.state
  pub finish_other : (ws : List ℕ) → (length ws ≡ state_words → ⊥) → (finish_words ws).refusal ≡ refusals.state
  -- A refused start sets every number of the array to 0.
  pub start_refused : (octets : List ℕ) (revision number len : ℕ) (ws : List ℕ) → ((start_words octets revision number len ws).refusal ≡ 0 → ⊥)
      → (start_words octets revision number len ws).array ≡ replicate (length ws) 0
