-- Whether a message is in its shortest form, case by case: one that the check refuses is not.
use Prim.Native.Nat.{ℕ, ◌≤◌, ◌<◌}
use native.Mathlib.Omega.{arith}
use mathlib.Core.Path.{◌≡◌, refl}
use mathlib.Core.Bool.{true, false, ◌&&◌}
use mathlib.Core.List.{List}
use lib.ListN.{length}
use lib.Dec.{eqb}
use borrow.Author.Tests.{ne_eqb}
use Rattle.reading.specs.Refusals as refusals
use Rattle.reading.specs.Reading.{Reading, accepted, refused, message_limit, depth_limit, last_number}
use Rattle.reading.specs.Checks.{refusal, counts}
use Rattle.reading.specs.declared.Checked.{Checked}
use Rattle.octets.specs.Number.{Octets}
use Rattle.octets.specs.Short.{same}
use Rattle.octets.proofs.Bools.{and_right}
use Rattle.octets.proofs.Same.{same_true}
use Rattle.table.specs.Schema.{Schema, is_revision, schema}
use Rattle.table.specs.Valid.{valid}
use Rattle.table.specs.declared.Table.{Table}
use Rattle.message.specs.Cut.{Cut}
use Rattle.message.specs.Reading.{reading}
use Rattle.message.specs.internal.Short.{short_reading}
use Rattle.message.proofs.Accepted.{accepted_good}
use Rattle.message.proofs.Refusals.{refusal_positive}
use Rattle.message.proofs.Short.{short_good}
use Rattle.message_calls.specs.Check.{tree_counts, check, check_under}
use Rattle.message_calls.specs.Written.{shortest_of_reading}
use Rattle.message_calls.specs.Shorten.{shortest_under, shortest_by_table}
use Rattle.message_calls.specs.Short.{short_under, short}
use Rattle.message_calls.proofs.CheckAnswers.{too_long, bad_table, under-valid, read_under}

-- The shortest octets of a message that is in its shortest form are the message.
pub short_is : (sc : Schema) (n : ℕ) (s : List ℕ) → short_under sc n s ≡ true → shortest_under sc n s ≡ s
unfolding short_under
short_is sc n s e =
    same_true (shortest_under sc n s) s (and_right (eqb (check_under sc n s).refusal 0) (same (shortest_under sc n s) s) e)

module _ (sc : Schema) (n : ℕ) (s : List ℕ) where
  pub refused-not-short-under : (c : Checked) → c ≡ check_under sc n s → (c.refusal ≡ 0 → ⊥) → false ≡ short_under sc n s
  unfolding short_under
  refused-not-short-under c e ne = rw (← e, ne_eqb c.refusal 0 ne) refl

  -- A message that is read is short exactly if each control part and each number of its cut is in its shortest form.
  pub short-by-reading : Octets s → length s ≤ message_limit → n ≤ last_number → short_reading sc n (reading sc n s) ≡ short_under sc n s
  unfolding short_under shortest_under short_reading tree_counts counts shortest_of_reading refusal reading
  short-by-reading o h k = rw (read_under sc n s h k) (go (reading sc n s) refl)
    where
      go : (r : Reading Cut) → reading sc n s ≡ r → short_reading sc n r ≡ eqb (tree_counts sc n r).refusal 0 && same (shortest_of_reading sc n r) s
      go (accepted cut) e = short_good sc depth_limit n s cut o (accepted_good sc depth_limit n 0 0 s cut e)
      go (refused reason place) e = let p = refusal_positive sc depth_limit n 0 0 s reason place e in rw (ne_eqb reason 0 (λ z. omega arith)) refl

module _ (t : Table) (revision n : ℕ) (s : List ℕ) where
  pub refused_not_short : (c : Checked) → c ≡ check t revision n s → (c.refusal ≡ 0 → ⊥) → false ≡ short t revision n s
  unfolding short
  refused_not_short c e ne = rw (← e, ne_eqb c.refusal 0 ne)

  pub too-long-not-short : message_limit < length s → false ≡ short t revision n s
  unfolding refusal
  too-long-not-short h = refused_not_short (refusal refusals.too_long 0) (too_long t revision n s h) (λ z. omega arith)

  pub bad-table-not-short : length s ≤ message_limit → valid t && is_revision revision ≡ false → false ≡ short t revision n s
  unfolding refusal
  bad-table-not-short h v = refused_not_short (refusal refusals.table 0) (bad_table t revision n s h v) (λ z. omega arith)

  -- Under the schema of a table that the loader can return, a message is short exactly if it is so under the table and the revision.
  pub short-under : length s ≤ message_limit → valid t && is_revision revision ≡ true → (sc : Schema) → sc ≡ schema revision t
      → short_under sc n s ≡ short t revision n s
  unfolding short_under short shortest_by_table
  short-under h v sc e = rw (under-valid t revision n s h v sc e, e) refl
