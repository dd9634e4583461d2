-- What a dictionary is (document 02, item 1), independent of the loader: one record for each entry. And which octets are refused, at which
-- place. No contract cites these. proofs/Records.antt shows that the loader accepts and refuses exactly these lists, if their numbers are below
-- 256.
use Rattle.std.specs.Prelude.{ℕ, ◌≤◌, ◌<◌, ◌≡◌, true, false, List, [], ◌∷◌, ◌++◌, length}
use Rattle.octets.specs.Number.{octets_of}
use Rattle.tib_field.specs.Fields.{joined, EachAfter}
use Rattle.tib_dictionary.specs.Entry.{in_range, has}
use Rattle.tib_dictionary.specs.declared.Entry.{Entry}

-- The record of an entry: tag 2, length 5 on two octets, the fid on two octets, the type on one, and the size on two.
unfoldable pub record_of : Entry → List ℕ
record_of e = 2 ∷ 0 ∷ 5 ∷ (octets_of 2 e.fid ++ (e.kind ∷ octets_of 2 e.size))

-- An entry that may come after these: in range, with a fid that none of them has, and not the 513th.
pub record Continues (es : List Entry) (e : Entry) : Type 0 where
  pub in_range : in_range e ≡ true
  pub new : has es e.fid ≡ false
  pub few : length es < 512

-- Octets are the records of entries.
pub record IsDictionary (s : List ℕ) (es : List Entry) : Type 0 where
  pub divides : s ≡ joined record_of es
  pub each : EachAfter Continues [] es

-- Octets whose first faulty record starts at a place: the records of entries, and then octets that do not begin with the record of one more.
pub record FaultyDictionary (s : List ℕ) (place : ℕ) : Type 0 where
  pub es : List Entry
  pub rest : List ℕ
  pub divides : s ≡ joined record_of es ++ rest
  pub each : EachAfter Continues [] es
  pub more : 1 ≤ length rest
  pub next_faulty : (e : Entry) (later : List ℕ) → Continues es e → rest ≡ record_of e ++ later → ⊥
  pub at : place ≡ length (joined record_of es)
