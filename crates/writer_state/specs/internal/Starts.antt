-- What is left of a start after the tests of the buffer and of the table, and the refusals of finish and close in numbers.
use Rattle.std.specs.Prelude.{ℕ, Result, Ok, Err, leb}
use Rattle.reading.specs.Reading.{last_number}
use Rattle.reading.specs.Refusals as refusals
use Rattle.reading.specs.declared.Refusal.{Refusal}
use Rattle.table.specs.Schema.{is_revision}
use Rattle.writer_state.specs.Calls.{or_refuse, call_result, begun}
use Rattle.writer_state.specs.declared.Written.{Written}

-- The number of a refusal, 0 for none.
abbrev pub refusal_number : Result (Unit {0}) Refusal → ℕ
refusal_number (Ok nothing) = 0
refusal_number (Err refusal) = refusals.number refusal

-- The answer of a start by its revision and its message number.
unfoldable pub begins : ℕ → ℕ → ℕ → Written
begins len revision number =
    call_result (or_refuse (is_revision revision) refusals.table (or_refuse (leb number last_number) refusals.table 0)) (begun 0 0 0) (begun len revision number)
