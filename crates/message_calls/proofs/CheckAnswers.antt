-- The answer of the check, case by case; the counts of a verdict are those of the tree.
use Prim.Native.Nat.{ℕ, ◌≤◌, ◌<◌}
use mathlib.Core.Path.{◌≡◌, refl, sym, ap, ◌∙◌}
use mathlib.Core.Bool.{Bool, true, false, ◌&&◌, and-false}
use mathlib.Core.List.{List}
use lib.ListN.{length}
use borrow.Author.Tests.{le-ltb, lt-ltb}
use Rattle.reading.specs.Refusals as refusals
use Rattle.table.specs.Entry.{inner_of}
use Rattle.table.specs.Schema.{Schema, is_revision, schema}
use Rattle.table.specs.Valid.{valid}
use Rattle.table.specs.declared.Table.{Table}
use Rattle.message.specs.Cut.{Cut}
use Rattle.message.specs.Tree as trees
use Rattle.message.specs.Tree.{tree}
use Rattle.reading.specs.Reading.{Reading, accepted, refused, message_limit, last_number}
use Rattle.reading.specs.Checks.{refusal, counts}
use Rattle.reading.specs.internal.Verdicts.{verdict_of, checked_by}
use Rattle.reading.specs.internal.Verdicts.{Verdict}
use Rattle.message.specs.Reading.{reading, message_from}
use Rattle.message.proofs.Shortened.{tree_depth}
use Rattle.message_calls.specs.internal.Verdicts.{fields, verdict}
use Rattle.message_calls.specs.Check.{tree_counts, check, check_under}

tree_fields : (sc : Schema) (cut : Cut) (n : ℕ) → trees.fields (tree sc n cut) ≡ fields cut
unfolding tree trees.fields fields
tree_fields sc Cut.end n = refl
tree_fields sc (Cut.leaf tag c b rest) n = rw (tree_fields sc rest n)
tree_fields sc (Cut.nested tag c inside rest) n = rw (tree_fields sc inside (inner_of (sc.means n tag)), tree_fields sc rest n)

-- The answer by the verdict is the answer by the tree.
verdict-counts : (sc : Schema) (n : ℕ) (r : Reading Cut) → checked_by (verdict r) ≡ tree_counts sc n r
unfolding verdict_of checked_by tree_counts counts
verdict-counts sc n (accepted cut) = rw (tree_fields sc cut n, tree_depth sc cut n)
verdict-counts sc n (refused reason place) = refl

-- A table that the loader cannot return fails the test of table and revision, and so does a number that is no revision.
module _ (t : Table) (revision : ℕ) where
  pub table-fails : valid t ≡ false → valid t && is_revision revision ≡ false
  table-fails v = ap (λ (b : Bool). b && is_revision revision) v

  pub revision-fails : is_revision revision ≡ false → valid t && is_revision revision ≡ false
  revision-fails e = ap (λ (b : Bool). valid t && b) e ∙ and-false (valid t)

module _ (t : Table) (revision n : ℕ) (s : List ℕ) where
  pub too_long : message_limit < length s → refusal refusals.too_long 0 ≡ check t revision n s
  unfolding check
  too_long h = rw (lt-ltb message_limit (length s) h)

  pub bad_table : length s ≤ message_limit → valid t && is_revision revision ≡ false → refusal refusals.table 0 ≡ check t revision n s
  unfolding check
  bad_table h v = rw (le-ltb message_limit (length s) h, v)

  -- Under the schema of a table that the loader can return, the check has the same answer as under the table and the revision.
  pub under-valid : length s ≤ message_limit → valid t && is_revision revision ≡ true → (sc : Schema) → sc ≡ schema revision t
      → check_under sc n s ≡ check t revision n s
  unfolding check
  under-valid h v sc e = rw (e, le-ltb message_limit (length s) h, v)

module _ (sc : Schema) (n : ℕ) (s : List ℕ) where
  pub too-long-under : message_limit < length s → refusal refusals.too_long 0 ≡ check_under sc n s
  unfolding check_under
  too-long-under h = rw (lt-ltb message_limit (length s) h)

  pub bad_number : length s ≤ message_limit → last_number < n → refusal refusals.table 0 ≡ check_under sc n s
  unfolding check_under
  bad_number h k = rw (le-ltb message_limit (length s) h, lt-ltb last_number n k)

  module _ (h : length s ≤ message_limit) (k : n ≤ last_number) where
    pub read_under : check_under sc n s ≡ tree_counts sc n (reading sc n s)
    unfolding check_under
    read_under = rw (le-ltb message_limit (length s) h, le-ltb last_number n k)

    pub by-verdict : (w : Verdict) → w ≡ verdict (message_from sc 8 n 0 0 s) → checked_by w ≡ check_under sc n s
    unfolding reading
    by-verdict w e = ap checked_by e ∙ verdict-counts sc n (message_from sc 8 n 0 0 s) ∙ sym read_under

module _ (t : Table) (revision n : ℕ) (s : List ℕ) (h : length s ≤ message_limit) (v : valid t && is_revision revision ≡ true) (k : n ≤ last_number) where
  pub read_through : check t revision n s ≡ tree_counts (schema revision t) n (reading (schema revision t) n s)
  read_through = sym (under-valid t revision n s h v (schema revision t) refl) ∙ read_under (schema revision t) n s h k
