-- What document 02, item 2, asks of the check: it answers yes exactly where the shortener would give back the same octets. It is stated of any
-- functions that say what the calls answer: the check's refusal and its answer whether the message is short, the shortener's answer, and the
-- second buffer afterwards. The law `short_already` of this crate shows it of the functions that the contracts of the calls name.
use Rattle.std.specs.Prelude.{ℕ, ◌≤◌, ◌≡◌, Bool, true, false, List, [], ◌↔◌, length, take}
use Rattle.reading.specs.Reading.{message_limit, depth_limit, last_number}
use Rattle.reading.specs.declared.Checked.{Checked}
use Rattle.octets.specs.Number.{Octets}
use Rattle.table.specs.Load.{load}
use Rattle.table.specs.Schema.{is_revision, schema}
use Rattle.message.specs.Cut.{Cut, Good}
use Rattle.message.specs.Tree.{tree}
use Rattle.message.specs.Shortest.{shortest}
use Rattle.message_calls.specs.declared.Shortened.{Shortened}

-- For all table octets, revisions, message numbers and messages.
pub record ShortAlready (check : List ℕ → ℕ → ℕ → List ℕ → Checked) (short : List ℕ → ℕ → ℕ → List ℕ → Bool)
    (shorten : List ℕ → ℕ → ℕ → List ℕ → List ℕ → Shortened) (buffer : List ℕ → ℕ → ℕ → List ℕ → List ℕ → List ℕ) : Type 0 where
  -- A message that is refused is not short.
  pub refused_not_short : (table : List ℕ) (revision n : ℕ) (s : List ℕ) → ((check table revision n s).refusal ≡ 0 → ⊥) → short table revision n s ≡ false
  -- Where the shortener has room, the message is short exactly if the octets that it writes are the message.
  pub short_exactly : (table : List ℕ) (revision n : ℕ) (s out : List ℕ) → (shorten table revision n s out).refusal ≡ 0
      → (short table revision n s ≡ true) ↔ (take (shorten table revision n s out).length (buffer table revision n s out) ≡ s)
  -- An empty message is short.
  pub empty_short : (table : List ℕ) (revision n : ℕ) → (check table revision n []).refusal ≡ 0 → short table revision n [] ≡ true
  -- Without the check and the shortener, for all table octets that the loader does not refuse, both revisions, all message numbers up to 15 and all
  -- messages of at most 65,536 octets: a message with a cut is short exactly if it is the shortest form of its tree.
  pub by_tree : (table : List ℕ) → Octets table → (load table).refusal ≡ 0 → (revision : ℕ) → is_revision revision ≡ true
      → (n : ℕ) → n ≤ last_number → (s : List ℕ) → length s ≤ message_limit
      → (cut : Cut) → Good (schema revision (load table).table) depth_limit n s cut
      → (short table revision n s ≡ true) ↔ (shortest (tree (schema revision (load table).table) n cut) ≡ s)
