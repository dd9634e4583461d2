-- Tables, a buffer and the states over it that the laws about the writer use.
use Prim.Native.Nat.{ℕ, ◌-◌}
use mathlib.Core.List.{List, [], ◌∷◌, ◌++◌}
use lib.ListN.{length, replicate}
use Rattle.table.specs.Load.{load}
use Rattle.table.specs.declared.Table.{Table}
use Rattle.writer_state.specs.declared.State.{State}
use Rattle.writer_state.specs.declared.Written.{Written}
use Rattle.wrong_programs.specs.Writer.{Outcome}

-- The tags 1 and 2 have this kind in messages of the number 0. A message in them has the number 0 too.
abbrev pub table : ℕ → Table
table kind = (load (1 ∷ 0 ∷ 5 ∷ 0 ∷ 0 ∷ 1 ∷ kind ∷ 0 ∷ 1 ∷ 0 ∷ 5 ∷ 0 ∷ 0 ∷ 2 ∷ kind ∷ 0 ∷ [])).table

-- Both are marked single.
abbrev pub singles : ℕ → Table
singles kind = (load (1 ∷ 0 ∷ 6 ∷ 0 ∷ 0 ∷ 1 ∷ kind ∷ 0 ∷ 1 ∷ 1 ∷ 0 ∷ 6 ∷ 0 ∷ 0 ∷ 2 ∷ kind ∷ 0 ∷ 1 ∷ [])).table

abbrev pub unused : List ℕ
unused = replicate 6 0xaa

-- The buffer with octets at its end.
abbrev pub ending : List ℕ → List ℕ
ending s = replicate (6 - length s) 0xaa ++ s

-- A state by its revision and the masks of the outer levels, where the octets stored so far start, how many fields are open, and the marks and
-- tags of the fields that were opened.
abbrev pub noting : ℕ → List ℕ → ℕ → ℕ → List ℕ → List ℕ → State
noting revision masks start opened marks tags =
    record {
      length = 6;
      start = start;
      opened = opened;
      revision = revision;
      numbers = replicate 8 0;
      masks = masks ++ replicate (8 - length masks) 0;
      marks = marks ++ replicate (7 - length marks) 0;
      tags = tags ++ replicate (7 - length tags) 0;
    }

-- Under revision 2 with nothing noted.
abbrev pub state : ℕ → ℕ → List ℕ → List ℕ → State
state start opened marks tags = noting 2 [] start opened marks tags

-- No field was opened. `start` gives the state at 6, as proofs/StartFinish.antt shows.
abbrev pub state_at : ℕ → State
state_at start = state start 0 [] []

abbrev pub accepted : State → Written
accepted s = record { refusal = 0; place = 0; state = s }

abbrev pub refused : ℕ → State → Written
refused number s = record { refusal = number; place = 0; state = s }

abbrev pub outcome : Written → List ℕ → Outcome
outcome answer buffer = record { answer = answer; buffer = buffer }
