-- What a table is (document 01, Field table), independent of the loader: one record for each entry. No contract cites it;
-- proofs/Records.antt shows that the loader accepts exactly these octets and returns exactly these entries.
use Rattle.std.specs.Prelude.{ℕ, ◌≤◌, ◌≡◌, true, List, [], ◌∷◌, ◌++◌, length}
use Rattle.octets.specs.Number.{octets_of}
use Rattle.table.specs.Entry.{Entry, entry}
use Rattle.table.specs.Repeat.{distinct}
use Rattle.table.specs.Valid.{all_in_range}

-- The five octets of an entry: its message number, its tag on two octets, its kind and its inner number.
unfoldable pub entry_octets : Entry → List ℕ
entry_octets e = e.number ∷ (octets_of 2 e.tag ++ (e.kind ∷ e.inner ∷ []))

-- A record of an entry: the tag 1, the length 6 on two octets, the entry's octets and the mark. Where the mark is 0 it may be left out: then
-- the length is 5.
pub data RecordOf (e : Entry) : List ℕ → Type 0 where
  marked : RecordOf e (1 ∷ 0 ∷ 6 ∷ (entry_octets e ++ (e.mark ∷ [])))
  unmarked : e.mark ≡ 0 → RecordOf e (1 ∷ 0 ∷ 5 ∷ entry_octets e)

-- Octets are the records of words, joined.
pub data RecordsOf : List ℕ → List ℕ → Type 0 where
  none : RecordsOf [] []
  more : (r s : List ℕ) (w : ℕ) (ws : List ℕ) → RecordOf (entry w) r → RecordsOf s ws → RecordsOf (r ++ s) (w ∷ ws)

-- Octets are the records of words: at most 64, each word's entry in range, no pair of message number and tag twice.
pub record IsTable (s ws : List ℕ) : Type 0 where
  pub joined : RecordsOf s ws
  pub few : length ws ≤ 64
  pub in_range : all_in_range ws ≡ true
  pub apart : distinct ws ≡ true
