-- The numbers of refusals.
use native.Mathlib.Omega.{arith}
use mathlib.Core.Path.{◌≡◌}
use Rattle.reading.specs.declared.Refusal.{Refusal}
use Rattle.reading.specs.declared.Refusal.TheVariants.{TooLong, Table, Cut, PastTheEnd, TooDeep, NumberTooWide, Text, TagOrKind, NoRoom, State, NothingOpen, StillOpen, Magic, Size, Name, TypeSizeOrHint, NotInFractions, Absent, NotInDictionary, Repeated}
use Rattle.reading.specs.Refusals.{number}

-- 0 is the number of no refusal.
pub some_refusal : (r : Refusal) → number r ≡ 0 → ⊥
some_refusal TooLong e = omega arith
some_refusal Table e = omega arith
some_refusal Cut e = omega arith
some_refusal PastTheEnd e = omega arith
some_refusal TooDeep e = omega arith
some_refusal NumberTooWide e = omega arith
some_refusal Text e = omega arith
some_refusal TagOrKind e = omega arith
some_refusal NoRoom e = omega arith
some_refusal State e = omega arith
some_refusal NothingOpen e = omega arith
some_refusal StillOpen e = omega arith
some_refusal Magic e = omega arith
some_refusal Size e = omega arith
some_refusal Name e = omega arith
some_refusal TypeSizeOrHint e = omega arith
some_refusal NotInFractions e = omega arith
some_refusal Absent e = omega arith
some_refusal NotInDictionary e = omega arith
some_refusal Repeated e = omega arith
