-- Demand 2 of the order, its part about the writer. It is stated for any functions that give the answers of a writer's calls and of a check.
-- The contracts of the calls name these functions, and the law `demand_2` proves the demand for them, so a reader need not read how they are computed.
-- It is about runs. The contracts say which other states, buffers and tables are refused.
use Rattle.std.specs.Prelude.{ℕ, ◌≡◌, List}
use Rattle.reading.specs.Reading.{depth_limit}
use Rattle.reading.specs.declared.Checked.{Checked}
use Rattle.table.specs.Schema.{schema}
use Rattle.table.specs.declared.Table.{Table}
use Rattle.message.specs.Cut.{Cut, Good}
use Rattle.message.specs.Tree.{Tree, tree, fields, depth}
use Rattle.message.specs.ReadTheSame.{OthersMore}
use Rattle.writer_state.specs.Call.{Call, Writer}
use Rattle.writer_state.specs.declared.State.{State}
use Rattle.writer_laws.specs.Given.{Given, message}
use Rattle.writer_laws.specs.Written.{written, AtEnd}
use Rattle.writer_laws.specs.Run.{Run}
use Rattle.writer_laws.specs.Refusal.{refusal_of_start, Refusals}
use Rattle.writer_laws.specs.Unchanged.{Unchanged}
use Rattle.writer_laws.specs.Zeros.{Zeros}

-- The answer of the check for a table, a revision, a message number and a message.
module _ (check : Table → ℕ → ℕ → List ℕ → Checked) where
  -- What holds after a run (specs/Run.antt) over a lent buffer, which left the buffer `after` and gave the fields `given`, last given
  -- first, where finish is accepted and returns the start `from`.
  pub record Demand2 (t : Table) (revision number : ℕ) (lent : List ℕ) (from : ℕ) (after : List ℕ) (given : Given) : Type 0 where
    -- All that was opened is closed, so the fields given are those of one message.
    pub whole : Tree
    pub all_given : given ≡ message whole
    -- From that place to the buffer's end stand octets, and those before them are as they were lent.
    pub octets : List ℕ
    pub stand : AtEnd lent from octets after
    -- The check accepts the octets, under the table, the revision and the number of start, and counts the fields given.
    pub accepted : check t revision number octets ≡ record { refusal = 0; place = 0; fields = fields whole; depth = depth whole }
    -- They have a cut, and its tree is that of the fields given.
    pub cut : Cut
    pub good : Good (schema revision t) depth_limit number octets cut
    pub reads_back : tree (schema revision t) number cut ≡ whole
    -- They are the shortest octets that read as these fields.
    pub is_shortest : OthersMore (schema revision t) number octets octets

  -- What holds after a run that left this state and this buffer.
  pub record AfterRun (w : Writer) (t : Table) (revision number : ℕ) (lent : List ℕ) (s : State) (after : List ℕ) (given : Given) : Type 0 where
    -- The next call, or finish, is refused just for the reasons of specs/Refusal.antt.
    pub refusals : Refusals w t revision number lent s after given
    -- The octets of the fields given stand at the buffer's end, while fields are open too.
    pub stand : AtEnd lent s.start (written given) after
    pub finished : (w.finish s).refusal ≡ 0 → Demand2 t revision number lent (w.finish s).start after given

  -- Demand 2 of the order, its part about the writer.
  pub record Demand2Holds (w : Writer) : Type 0 where
    -- For every table, revision, message number and lent buffer, start is refused just for the reasons of specs/Refusal.antt, and AfterRun
    -- holds after every run.
    pub starts : (t : Table) (revision number len : ℕ) → (w.start t revision number len).refusal ≡ refusal_of_start t revision number len
    pub runs : (t : Table) (revision number : ℕ) (lent : List ℕ) (s : State) (after : List ℕ) (given : Given) → Run w t revision number lent s after given
        → AfterRun w t revision number lent s after given
    -- On every table, state and buffer, a refused call changes neither state nor buffer, and finish never changes the state.
    pub refused : (t : Table) (s : State) (d : List ℕ) (c : Call) → ((w.answer t s d c).refusal ≡ 0 → ⊥) → Unchanged w t s d c
    pub finish_keeps : (s : State) → (w.finish s).state ≡ s
    -- In a refusal all but the refusal itself is 0, except for the state that a call or finish returns.
    pub zeros : Zeros w
