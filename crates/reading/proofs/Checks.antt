-- The answer by a verdict is the answer of the check.
use Prim.Native.Nat.{ℕ}
use mathlib.Core.Path.{◌≡◌, refl, ap, ◌∙◌}
use Rattle.std.specs.Prelude.{Result, Ok, Err}
use Rattle.reading.specs.declared.Counts.{Counts}
use Rattle.reading.specs.declared.Fault.{Fault}
use Rattle.reading.specs.Reading.{Reading, accepted, refused}
use Rattle.reading.specs.Checks.{counts, checked}
use Rattle.reading.specs.internal.Verdicts.{verdict, verdict_of, checked_by}

pub answer_by_verdict : {A : Type 0} (fields depth : A → ℕ) (r : Reading A) → checked_by (verdict_of fields depth r) ≡ counts fields depth r
unfolding checked_by verdict_of counts
answer_by_verdict fields depth (accepted x) = refl
answer_by_verdict fields depth (refused reason place) = refl

-- The same by the result of the function that reads.
pub checked_of_verdict : {A : Type 0} (fields depth : A → ℕ) (r : Reading A) (read : Result Counts Fault)
    → verdict read ≡ verdict_of fields depth r → checked read ≡ counts fields depth r
unfolding checked_by
checked_of_verdict fields depth r (Ok c) e = ap checked_by e ∙ answer_by_verdict fields depth r
checked_of_verdict fields depth r (Err f) e = ap checked_by e ∙ answer_by_verdict fields depth r
