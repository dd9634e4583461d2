-- What a function finds where a hint may begin, by its result.
use Rattle.std.specs.Prelude.{ℕ, Result, Ok, Err}
use Rattle.reading.specs.declared.Refusal.{Refusal}
use Rattle.reading.specs.Refusals.{number}
use Rattle.tib_msg_field.specs.Reading.{HintStep, HintFault, Size}

abbrev pub hint_step : Result ℕ Refusal → HintStep
hint_step (Ok h) = Size h
hint_step (Err r) = HintFault (number r)
