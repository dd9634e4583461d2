-- Tables and calls that several entries are given.
use Prim.Native.Nat.{ℕ}
use mathlib.Core.List.{List, [], ◌∷◌}
use Rattle.wrong_programs.specs.Check.{CheckInput}

-- A table of one record: tag 1 in messages of the number 0 has this kind. A message in it has the number 0 too.
abbrev pub only : ℕ → List ℕ
only kind = 1 ∷ 0 ∷ 5 ∷ 0 ∷ 0 ∷ 1 ∷ kind ∷ 0 ∷ []

-- The same with a mark: 0 many, 1 single.
abbrev pub only_marked : ℕ → ℕ → List ℕ
only_marked kind mark = 1 ∷ 0 ∷ 6 ∷ 0 ∷ 0 ∷ 1 ∷ kind ∷ 0 ∷ mark ∷ []

abbrev pub uints : List ℕ
uints = only 1

abbrev pub ints : List ℕ
ints = only 2

abbrev pub messages : List ℕ
messages = only 5

-- A call under a revision, and under revision 2.
abbrev pub asked_under : ℕ → List ℕ → ℕ → List ℕ → CheckInput
asked_under revision table number message = record { table = table; revision = revision; number = number; message = message }

abbrev pub asked : List ℕ → ℕ → List ℕ → CheckInput
asked table number message = asked_under 2 table number message
