-- In an index that was made in cells that were cleared, no two single tags of a number have the same order: whatever words were inserted, and none.
use Prim.Native.Nat.{ℕ, ◌≤◌, min}
use native.Mathlib.Omega.{arith}
use mathlib.Core.Path.{◌≡◌, refl, ap}
use mathlib.Core.Bool.{false, false≢true}
use mathlib.Core.List.{List}
use lib.ListN.{length, get_or, replicate}
use Rattle.table.specs.Entry.{entry}
use Rattle.table.specs.Load.{in_range}
use Rattle.table_index.specs.internal.Cells.{word_under, inserted_before, prefix_end, prefix_length, inserted_words, OneOrder}
use Rattle.table_index.proofs.Revisions.{range_under}
use Rattle.table_index.proofs.Words.{small}
use Rattle.table_index.proofs.AcceptedPrefix.{prefix_one_order}

pub empty_order : OneOrder (replicate 128 0)
unfolding prefix_end inserted_before
empty_order = prefix_one_order (λ i. false) (λ i. 0) (λ j g. absurd (false≢true g)) 0 (omega arith) 0 refl

module _ (revision : ℕ) (ws : List ℕ) (size : length ws ≤ 64) where
  prefix_is : prefix_length revision ws (replicate 128 0)
      ≡ prefix_end (λ i. in_range (entry (get_or ws i 0))) (λ i. word_under revision (get_or ws i 0)) (replicate 128 0) 0 (length ws)
  unfolding prefix_length
  prefix_is =
      let most : min 64 (length ws) ≡ length ws = omega arith in
      ap (prefix_end (λ i. in_range (entry (get_or ws i 0))) (λ i. word_under revision (get_or ws i 0)) (replicate 128 0) 0) most

  pub words_order : OneOrder (inserted_words revision ws (replicate 128 0))
  unfolding inserted_words
  words_order =
      prefix_one_order (λ i. in_range (entry (get_or ws i 0))) (λ i. word_under revision (get_or ws i 0))
      (λ j g. small (word_under revision (get_or ws j 0)) (range_under revision (get_or ws j 0) g)) (length ws) size
      (prefix_length revision ws (replicate 128 0)) prefix_is
