-- Demand 1 of the order, its part about hproto messages: every message is either accepted with its counts, or refused with its first fault;
-- never both, never neither; and every bad input before that is refused. It is stated of any function that says what a check answers by a
-- table's octets, a revision, a message number and a message; the law `demand_1` shows it of `check_octets`, which the contract of message_calls::check
-- names. How that is computed need not be read.
use Rattle.std.specs.Prelude.{ℕ, ◌≤◌, ◌<◌, ◌≡◌, true, false, List, ◌⊎◌, length}
use Rattle.reading.specs.Refusals as refusals
use Rattle.reading.specs.Reading.{message_limit, depth_limit, last_number}
use Rattle.reading.specs.Checks.{refusal}
use Rattle.reading.specs.declared.Checked.{Checked}
use Rattle.octets.specs.Number.{Octets}
use Rattle.table.specs.Load.{load}
use Rattle.table.specs.Schema.{Schema, is_revision, schema}
use Rattle.message.specs.Cut.{Cut, Good}
use Rattle.message.specs.Tree.{tree, fields, depth}
use Rattle.message.specs.ReadTheSame.{HasCut}
use Rattle.message.specs.FirstFault.{Fault, FirstFault, HasFault, fault_refusal, fault_place}

-- The check's answer for a message of a number that is read under a schema.
pub record Demand1 (sc : Schema) (n : ℕ) (s : List ℕ) (answer : Checked) : Type 0 where
  -- The message has a cut or a first fault, never both, and no more than one of either.
  pub cut_or_fault : HasCut sc n s ⊎ HasFault sc n s
  pub never_both : HasCut sc n s → HasFault sc n s → ⊥
  pub one_cut : (a b : Cut) → Good sc depth_limit n s a → Good sc depth_limit n s b → a ≡ b
  pub one_fault : (a b : Fault) → FirstFault sc depth_limit n s a → FirstFault sc depth_limit n s b → a ≡ b
  -- With a cut it is accepted, with the counts of its tree.
  pub with_cut : (cut : Cut) → Good sc depth_limit n s cut
      → answer ≡ record { refusal = 0; place = 0; fields = fields (tree sc n cut); depth = depth (tree sc n cut) }
  -- With a first fault it is refused with the fault's number, from 3 to 7 or 20, at the fault's place.
  pub with_fault : (fault : Fault) → FirstFault sc depth_limit n s fault → answer ≡ refusal (fault_refusal fault) (fault_place fault)

-- Demand 1 of a check, for all table octets, revisions, message numbers and messages: four cases in document 01's order.
pub record Demand1Holds (check : List ℕ → ℕ → ℕ → List ℕ → Checked) : Type 0 where
  -- A message of more than 65,536 octets is refused with 1 at 0, whatever the table, the revision and the number are.
  pub too_long : (table : List ℕ) (revision n : ℕ) (s : List ℕ) → message_limit < length s → check table revision n s ≡ refusal refusals.too_long 0
  -- A table that the loader refuses is refused with 2 at the loader's place, whatever the revision and the number are.
  pub bad_table : (table : List ℕ) (revision n : ℕ) (s : List ℕ) → length s ≤ message_limit → ((load table).refusal ≡ 0 → ⊥)
      → check table revision n s ≡ refusal refusals.table (load table).place
  -- A revision other than 1 and 2, and a number over 15, is refused with 2 at 0.
  pub bad_number : (table : List ℕ) (revision n : ℕ) (s : List ℕ) → length s ≤ message_limit → (load table).refusal ≡ 0
      → (is_revision revision ≡ false) ⊎ (last_number < n) → check table revision n s ≡ refusal refusals.table 0
  -- Otherwise the message is read.
  pub otherwise : (table : List ℕ) (revision n : ℕ) (s : List ℕ) → length s ≤ message_limit → (load table).refusal ≡ 0 → is_revision revision ≡ true
      → n ≤ last_number → Octets table → Octets s → Demand1 (schema revision (load table).table) n s (check table revision n s)
