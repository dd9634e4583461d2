-- The answers of the calls in numbers, by the results of the functions.
use Rattle.std.specs.Prelude.{ℕ, Result, Ok, Err}
use Rattle.reading.specs.Refusals.{number}
use Rattle.reading.specs.declared.Fault.{Fault}
use Rattle.writer_state.specs.Finished.{Finished}
use Rattle.writer_state.specs.declared.State.{State}
use Rattle.writer_state.specs.declared.Written.{Written}

-- The answer of start, put, open or close that was given a state. A refused call leaves that state.
abbrev pub written : State → Result State Fault → Written
written given (Ok after) = record { refusal = 0; place = 0; state = after }
written given (Err fault) = record { refusal = number fault.refusal; place = fault.place; state = given }

-- The answer of finish.
abbrev pub finish_answer : State → Result ℕ Fault → Finished
finish_answer given (Ok start) = record { refusal = 0; place = 0; start = start; state = given }
finish_answer given (Err fault) = record { refusal = number fault.refusal; place = fault.place; start = 0; state = given }
