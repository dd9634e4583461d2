-- What private functions return that go through the records of a table's octets.
use Rattle.std.specs.Prelude.{ℕ, ◌-◌, ◌≤◌, ◌<◌, ◌≡◌, Bool, true, List, ◌++◌, length, replicate}
use Rattle.table.specs.Load.{place_at, record_at, word_at, well_formed, words_before, faulty}
use Rattle.table_index.specs.internal.Cells.{word_under, inserted_before, prefix_end}

-- For `records`: the first n records are well-formed, `words` are the words of their table and `end` is the place after them. If octets follow
-- them, the next record is faulty.
pub record Passed (s : List ℕ) (n : ℕ) (words : List ℕ) (end : ℕ) : Type 0 where
  pub few : n ≤ 64
  pub formed : (j : ℕ) → j < n → well_formed (record_at s j) ≡ true
  pub filled : words ≡ words_before s n ++ replicate (64 - n) 0
  pub ended : end ≡ place_at s n
  pub stopped : place_at s n < length s → faulty s n ≡ true

-- The cells after the first n words of an accepted prefix, of at most `most` words: the words after them decide where the prefix ends.
pub record InsertLoop (good : ℕ → Bool) (word : ℕ → ℕ) (cells₀ : List ℕ) (most n : ℕ) (cells : List ℕ) : Type 0 where
  pub few : n ≤ most
  pub rest : prefix_end good word cells₀ 0 most ≡ prefix_end good word cells₀ n (most - n)
  pub so_far : cells ≡ inserted_before word cells₀ n

-- The same for the records of octets under a revision: `at` is the place after the first n.
pub record InsertedRecords (revision : ℕ) (s cells₀ : List ℕ) (n at : ℕ) (cells : List ℕ) : Type 0 where
  pub loop : InsertLoop (λ i. well_formed (record_at s i)) (λ i. word_under revision (word_at s i)) cells₀ 64 n cells
  pub place : at ≡ place_at s n
  pub within : at ≤ length s

-- The place after the accepted prefix of the records, and the cells after inserting it.
unfoldable pub IndexEnds : ℕ → List ℕ → List ℕ → ℕ → List ℕ → Type 0
IndexEnds revision s cells₀ at cells =
    let n = prefix_end (λ i. well_formed (record_at s i)) (λ i. word_under revision (word_at s i)) cells₀ 0 64 in
    (at ≡ place_at s n) × (cells ≡ inserted_before (λ i. word_under revision (word_at s i)) cells₀ n)
