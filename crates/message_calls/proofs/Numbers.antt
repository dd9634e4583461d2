-- What the results of the check say in numbers.
use native.Mathlib.Omega.{arith}
use mathlib.Core.Path.{◌≡◌, refl, sym, ap}
use Rattle.std.specs.Prelude.{Result, Ok, Err}
use Rattle.reading.specs.Checks.{refusal}
use Rattle.reading.specs.Refusals.{number}
use Rattle.reading.specs.declared.Refusal.{Refusal}
use Rattle.reading.specs.declared.Refusal.TheVariants.{TooLong, Table, Cut, PastTheEnd, TooDeep, NumberTooWide, Text, TagOrKind, NoRoom, State, NothingOpen, StillOpen, Magic, Size, Name, TypeSizeOrHint, NotInFractions, Absent, NotInDictionary, Repeated}
use Rattle.reading.specs.declared.Fault.{Fault}
use Rattle.reading.specs.declared.Checked.{Checked}
use Rattle.reading.specs.internal.Verdicts.{checked_by}
use Rattle.message_calls.specs.Results.{checked_numbers}
use Rattle.message_calls.specs.internal.Verdicts.{returned}
use Rattle.message_calls.specs.declared.Summary.{Summary}

-- No refusal has the number 0.
pub number_some : (r : Refusal) → number r ≡ 0 → ⊥
number_some TooLong e = absurd (omega arith)
number_some Table e = absurd (omega arith)
number_some Cut e = absurd (omega arith)
number_some PastTheEnd e = absurd (omega arith)
number_some TooDeep e = absurd (omega arith)
number_some NumberTooWide e = absurd (omega arith)
number_some Text e = absurd (omega arith)
number_some TagOrKind e = absurd (omega arith)
number_some NoRoom e = absurd (omega arith)
number_some State e = absurd (omega arith)
number_some NothingOpen e = absurd (omega arith)
number_some StillOpen e = absurd (omega arith)
number_some Magic e = absurd (omega arith)
number_some Size e = absurd (omega arith)
number_some Name e = absurd (omega arith)
number_some TypeSizeOrHint e = absurd (omega arith)
number_some NotInFractions e = absurd (omega arith)
number_some Absent e = absurd (omega arith)
number_some NotInDictionary e = absurd (omega arith)
number_some Repeated e = absurd (omega arith)

-- So a result with a fault is an answer that refuses, and any other is not.
pub fault_refuses : (f : Fault) → (checked_numbers (Err f)).refusal ≡ 0 → ⊥
unfolding refusal
fault_refuses f e = number_some f.refusal e

pub summary_passes : (c : Checked) (s : Summary) → checked_numbers (Ok s) ≡ c → c.refusal ≡ 0
summary_passes c s e = sym (ap (λ (x : Checked). x.refusal) e)

-- The numbers by the verdict.
pub numbers_by_verdict : (r : Result Summary Fault) → checked_numbers r ≡ checked_by (returned r)
unfolding checked_by
numbers_by_verdict (Ok s) = refl
numbers_by_verdict (Err f) = refl
