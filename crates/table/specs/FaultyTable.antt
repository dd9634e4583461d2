-- Which octets are refused as a table, and at which place (document 01, Field table), independent of the loader: a table followed by octets
-- that do not begin with the record of one more entry. No contract cites it; proofs/FaultyTables.antt shows that the loader refuses exactly
-- these octets, at exactly this place.
--
-- `IsTable` tests words by `all_in_range` (every word's entry is `inRange`) and `distinct` (no word's `pair` is `seen` in the words after it).
-- `inRange`, `pair` and `seen` stand in Load.antt, but do not depend on the loader. `inRange` of an entry: message number 0 to 15, kind 1 to 5, inner
-- number 0 to 15 for kind 5, else 0, mark 0 or 1. `pair` of a word: its message number and field tag, as one number. `seen`: whether a pair is
-- that of one of the words.
use Rattle.std.specs.Prelude.{ℕ, ◌≤◌, ◌≡◌, List, [], ◌∷◌, ◌++◌, length}
use Rattle.table.specs.Entry.{entry}
use Rattle.table.specs.Records.{RecordOf, IsTable}

-- Octets whose first faulty record starts at a place: `before` is a table of the words `ws`, and `rest` has the octets after it.
-- The rest does not begin with a record that continues the table: its first record is cut, has another tag or length, a number out of range or a
-- pair seen before, or is the 65th.
pub record FaultyTable (s : List ℕ) (place : ℕ) : Type 0 where
  pub ws : List ℕ
  pub before : List ℕ
  pub rest : List ℕ
  pub divides : s ≡ before ++ rest
  pub good_before : IsTable before ws
  pub more : 1 ≤ length rest
  pub next_faulty : (w : ℕ) (r later : List ℕ) → RecordOf (entry w) r → rest ≡ r ++ later → IsTable (before ++ r) (ws ++ (w ∷ [])) → ⊥
  pub at : place ≡ length before
