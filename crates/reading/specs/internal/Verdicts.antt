-- The answer of a check in two steps, as the readers compute it: the verdict of the traversal, and the answer by that verdict.
use Rattle.std.specs.Prelude.{ℕ, ◌≡◌, Result, Ok, Err}
use Rattle.reading.specs.declared.Counts.{Counts}
use Rattle.reading.specs.declared.Fault.{Fault}
use Rattle.reading.specs.declared.Checked.{Checked}
use Rattle.reading.specs.Reading.{Reading, accepted, refused}
use Rattle.reading.specs.Checks.{refusal}
use Rattle.reading.specs.Refusals.{number}

-- The verdict of a traversal of a message: the count of its fields and its depth, or the number of a refusal and its place.
pub data Verdict : Type 0 where
  Accepted : ℕ → ℕ → Verdict
  Refused : ℕ → ℕ → Verdict

-- The verdict of a reading.
unfoldable pub verdict_of : {A : Type 0} → (A → ℕ) → (A → ℕ) → Reading A → Verdict
verdict_of fields depth (accepted x) = Accepted (fields x) (depth x)
verdict_of fields depth (refused reason place) = Refused reason place

-- The answer by a verdict.
unfoldable pub checked_by : Verdict → Checked
checked_by (Accepted f d) = record { refusal = 0; place = 0; fields = f; depth = d }
checked_by (Refused reason place) = refusal reason place

-- A reading that accepts.
unfoldable pub IsAccepted : {A : Type 0} → Reading A → Type 0
IsAccepted {A} r = (x : A) × (r ≡ accepted x)

-- The verdict that a reader returns.
abbrev pub verdict : Result Counts Fault → Verdict
verdict (Ok c) = Accepted c.fields c.depth
verdict (Err f) = Refused (number f.refusal) f.place
