-- The answer of a check, by the reading of the message.
use Rattle.std.specs.Prelude.{ℕ, Result, Ok, Err}
use Rattle.reading.specs.declared.Counts.{Counts}
use Rattle.reading.specs.declared.Fault.{Fault}
use Rattle.reading.specs.declared.Checked.{Checked}
use Rattle.reading.specs.Refusals.{number}
use Rattle.reading.specs.Reading.{Reading, accepted, refused}

-- A refusal with its number, called the reason, and its place; all else is 0.
unfoldable pub refusal : ℕ → ℕ → Checked
refusal reason place = record { refusal = reason; place = place; fields = 0; depth = 0 }

-- The reading's refusal, or the counts of its division, which the functions `fields` and `depth` return.
unfoldable pub counts : {A : Type 0} → (A → ℕ) → (A → ℕ) → Reading A → Checked
counts fields depth (accepted x) = record { refusal = 0; place = 0; fields = fields x; depth = depth x }
counts fields depth (refused reason place) = refusal reason place

-- The answer of a check in numbers, by the result of the function that checks.
abbrev pub checked : Result Counts Fault → Checked
checked (Ok c) = record { refusal = 0; place = 0; fields = c.fields; depth = c.depth }
checked (Err f) = refusal (number f.refusal) f.place
