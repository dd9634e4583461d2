-- The parts of a writer's answers that are 0.
use Rattle.std.specs.Prelude.{ℕ, ◌≡◌, List, replicate}
use Rattle.table.specs.declared.Table.{Table}
use Rattle.writer_state.specs.Call.{Call, Writer}
use Rattle.writer_state.specs.declared.State.{State}

-- A state of zeros.
abbrev pub no_state : State
no_state =
    record {
      length = 0;
      start = 0;
      opened = 0;
      revision = 0;
      numbers = replicate 8 0;
      masks = replicate 8 0;
      marks = replicate 7 0;
      tags = replicate 7 0;
    }

-- Every place is 0. A refused start also returns a state of zeros, and a refused finish the start 0.
pub record Zeros (w : Writer) : Type 0 where
  pub start_place : (t : Table) (revision number len : ℕ) → (w.start t revision number len).place ≡ 0
  pub call_place : (t : Table) (s : State) (d : List ℕ) (c : Call) → (w.answer t s d c).place ≡ 0
  pub finish_place : (s : State) → (w.finish s).place ≡ 0
  pub start_refused : (t : Table) (revision number len : ℕ) → ((w.start t revision number len).refusal ≡ 0 → ⊥) → (w.start t revision number len).state ≡ no_state
  pub finish_refused : (s : State) → ((w.finish s).refusal ≡ 0 → ⊥) → (w.finish s).start ≡ 0
