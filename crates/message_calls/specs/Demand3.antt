-- Demand 3 of the order, of a check and a shortener. It is stated of any functions that say what the calls answer: the check's answer, the
-- shortener's, and the second buffer afterwards. The contracts of the calls name these functions, and the law `demand_3` of this crate
-- shows the demand of them: how they are computed need not be read.
use Rattle.std.specs.Prelude.{ℕ, ◌≤◌, ◌<◌, ◌≡◌, true, List, ◌++◌, ◌↔◌, length, drop}
use Rattle.reading.specs.Refusals as refusals
use Rattle.reading.specs.Reading.{message_limit, depth_limit, last_number}
use Rattle.reading.specs.declared.Checked.{Checked}
use Rattle.octets.specs.Number.{Octets}
use Rattle.table.specs.Load.{load}
use Rattle.table.specs.Schema.{Schema, is_revision, schema}
use Rattle.message.specs.Cut.{Cut, Good}
use Rattle.message.specs.ReadTheSame.{HasCut, IsShortest}
use Rattle.message_calls.specs.declared.Shortened.{Shortened}

-- The schema of a table and a revision, and what the calls answer under these: the check by message number and message, the shortener and the
-- buffer afterwards by these and the second buffer.
module _ (sc : Schema) (check : ℕ → List ℕ → Checked) (shorten : ℕ → List ℕ → List ℕ → Shortened) (buffer : ℕ → List ℕ → List ℕ → List ℕ)
    (n : ℕ) (s : List ℕ) where
  -- The message is shortened to these octets: the shortest that read the same, which the check accepts. With room the shortener writes
  -- them at the front of the second buffer and leaves the rest; without room it refuses with 9 and leaves every octet.
  pub record Shortens (shortest : List ℕ) : Type 0 where
    pub is_shortest : IsShortest sc n s shortest
    pub shortest_accepted : (check n shortest).refusal ≡ 0
    pub with_room : (out : List ℕ) → length shortest ≤ length out
        → (shorten n s out ≡ record { refusal = 0; place = 0; length = length shortest }) × (buffer n s out ≡ shortest ++ drop (length shortest) out)
    pub without_room : (out : List ℕ) → length out < length shortest
        → (shorten n s out ≡ record { refusal = refusals.no_room; place = 0; length = 0 }) × (buffer n s out ≡ out)

  -- What the order's third demand says of a message of a number. The check accepts it exactly where it has a cut; it has at most one; and
  -- where it has one, there are octets that it is shortened to.
  pub record Demand3 : Type 0 where
    pub accepted_exactly_cut : ((check n s).refusal ≡ 0) ↔ HasCut sc n s
    pub one_cut : (a b : Cut) → Good sc depth_limit n s a → Good sc depth_limit n s b → a ≡ b
    pub shortened : HasCut sc n s → (shortest : List ℕ) × Shortens shortest

-- Demand 3 of the order, of calls that take a field table as its octets.
pub record Demand3Holds (check : List ℕ → ℕ → ℕ → List ℕ → Checked) (shorten : List ℕ → ℕ → ℕ → List ℕ → List ℕ → Shortened)
    (buffer : List ℕ → ℕ → ℕ → List ℕ → List ℕ → List ℕ) : Type 0 where
  -- Whatever the check refuses, the shortener refuses with the same number and place, and leaves every octet of the second buffer. This is for
  -- all table octets, all revisions, all message numbers and all messages: also for a message that is too long, a bad table, a bad revision and a
  -- bad number.
  pub refused_alike : (table : List ℕ) (revision n : ℕ) (s : List ℕ) → ((check table revision n s).refusal ≡ 0 → ⊥) → (out : List ℕ)
      → (shorten table revision n s out ≡ record { refusal = (check table revision n s).refusal; place = (check table revision n s).place; length = 0 })
      × (buffer table revision n s out ≡ out)
  -- The rest is for all table octets that the loader does not refuse, revision 1 and revision 2, all message numbers up to 15 and all messages of
  -- at most 65,536 octets.
  pub within_limits : (table : List ℕ) → Octets table → (load table).refusal ≡ 0 → (revision : ℕ) → is_revision revision ≡ true
      → (n : ℕ) → n ≤ last_number → (s : List ℕ) → Octets s → length s ≤ message_limit
      → Demand3 (schema revision (load table).table) (check table revision) (shorten table revision) (buffer table revision) n s
