-- Document 02, item 14, second part: what a swap of two adjacent fields with different tags changes. It is stated of any function that says what a
-- check answers by a table's octets, a revision, a message number and a message. The law `swaps` shows it of `check_octets`, which the contract of
-- message_calls::check names.
use Rattle.std.specs.Prelude.{ℕ, ◌≡◌, List, ◌↔◌}
use Rattle.reading.specs.Reading.{depth_limit}
use Rattle.reading.specs.declared.Checked.{Checked}
use Rattle.octets.specs.Number.{Octets}
use Rattle.table.specs.Load.{load}
use Rattle.table.specs.Schema.{Schema, schema}
use Rattle.message.specs.Cut.{Cut, joined, Good}
use Rattle.message.specs.Tree.{tree}
use Rattle.message.specs.Items.{Item, items, with_tag}
use Rattle.message_laws.specs.Swapped.{SwappedIn}

-- The fields with a tag in a message of a number, in order, each with its kind and its value.
unfoldable pub values_of : Schema → ℕ → Cut → ℕ → List Item
values_of sc n cut tag = with_tag (λ (i : Item). i) tag (items (tree sc n cut))

-- A message of the number n has the fields `cut` before a swap and `other` after it. The message in which the fields are swapped has the fields `x`
-- before the swap and `y` after it. `check` gives the check's answer for a message.
pub record AfterSwap (sc : Schema) (check : List ℕ → Checked) (n : ℕ) (cut other x y : Cut) : Type 0 where
  -- `cut` is the cut of the message before the swap exactly if `other` is that of the message after it.
  pub cut_alike : Good sc depth_limit n (joined cut) cut ↔ Good sc depth_limit n (joined other) other
  -- Then the check's answer is the same for both.
  pub same_answer : Good sc depth_limit n (joined cut) cut → check (joined other) ≡ check (joined cut)
  -- In the message in which the fields are swapped, every tag has the same list of values, whatever the number of that message is.
  pub same_values : (m tag : ℕ) → values_of sc m y tag ≡ values_of sc m x tag

-- For all tables that the loader accepts, all message numbers and all messages, under a revision.
unfoldable pub Swaps : (List ℕ → ℕ → ℕ → List ℕ → Checked) → ℕ → Type 0
Swaps check revision =
    (table : List ℕ) → Octets table → (load table).refusal ≡ 0 → (n : ℕ) (cut other x y : Cut) → SwappedIn cut other x y
    → AfterSwap (schema revision (load table).table) (check table revision n) n cut other x y
