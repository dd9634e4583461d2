-- Table values, revisions and states that no program may accept. Nothing is said of the program's answer to any other call.
use Rattle.std.specs.Prelude.{ℕ, suc, ◌≤◌, ◌<◌, ◌≡◌, get_or}
use Rattle.reading.specs.Reading.{message_limit, last_number}
use Rattle.table.specs.Load.{Loadable}
use Rattle.table.specs.declared.Table.{Table}
use Rattle.writer_state.specs.declared.State.{State}
use Rattle.wrong_programs.specs.Kinds.{RuledOut, AcceptsSome}

-- Programs that accept a table value that the loader cannot give. `table` is the table value in a call.
abbrev pub BadTableRuledOut : {A B : Type 0} → (A → B) → (B → ℕ) → (A → Table) → Type 0
BadTableRuledOut {A} right refusal table = RuledOut (AcceptsSome refusal (λ (x : A). Loadable (table x) → ⊥)) right

-- A number that is no revision of the profile, also where its last octet is 1 or 2.
unfoldable pub NoRevision : ℕ → Type 0
NoRevision revision = (revision ≡ 1 → ⊥) × (revision ≡ 2 → ⊥)

-- Programs that accept a number that is no revision. `revision` is the number in a call.
abbrev pub BadRevisionRuledOut : {A B : Type 0} → (A → B) → (B → ℕ) → (A → ℕ) → Type 0
BadRevisionRuledOut {A} right refusal revision = RuledOut (AcceptsSome refusal (λ (x : A). NoRevision (revision x))) right

-- Programs that accept a state with one of the faults that documents 01 and 02 list. `state` is the state in a call. A mark and a message number
-- count where they are in use: with k fields open, k marks and k + 1 numbers are.
pub record BadStateRuledOut {A B : Type 0} (right : A → B) (refusal : B → ℕ) (state : A → State) : Type 0 where
  pub accepts_long_buffer : RuledOut (AcceptsSome refusal (λ (x : A). message_limit < (state x).length)) right
  pub accepts_start_beyond_length : RuledOut (AcceptsSome refusal (λ (x : A). (state x).length < (state x).start)) right
  pub accepts_eight_open : RuledOut (AcceptsSome refusal (λ (x : A). 7 < (state x).opened)) right
  pub accepts_other_revision : BadRevisionRuledOut right refusal (λ (x : A). (state x).revision)
  pub accepts_mark_below_start :
      RuledOut (AcceptsSome refusal (λ (x : A). (i : ℕ) × (i < (state x).opened) × (get_or (state x).marks i 0 < (state x).start))) right
  pub accepts_mark_beyond_length :
      RuledOut (AcceptsSome refusal (λ (x : A). (i : ℕ) × (i < (state x).opened) × ((state x).length < get_or (state x).marks i 0))) right
  pub accepts_rising_marks :
      RuledOut
      (AcceptsSome refusal (λ (x : A). (i : ℕ) × (suc i < (state x).opened) × (get_or (state x).marks i 0 < get_or (state x).marks (suc i) 0)))
      right
  pub accepts_number_over_15 :
      RuledOut (AcceptsSome refusal (λ (x : A). (i : ℕ) × (i ≤ (state x).opened) × (last_number < get_or (state x).numbers i 0))) right
