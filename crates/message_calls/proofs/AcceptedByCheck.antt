-- A message that the check accepts is within the length limit, and its reading is a cut.
use Prim.Native.Nat.{ℕ, ◌≤◌}
use native.Mathlib.Omega.{arith}
use mathlib.Core.Path.{◌≡◌, refl}
use mathlib.Core.Bool.{Bool, true, false, cond, ◌&&◌}
use mathlib.Core.List.{List}
use lib.ListN.{length}
use lib.Dec.{ltb}
use borrow.Author.Tests.{ltb-false}
use Rattle.reading.specs.Refusals as refusals
use Rattle.table.specs.Schema.{Schema, is_revision, schema}
use Rattle.table.specs.Valid.{valid}
use Rattle.table.specs.declared.Table.{Table}
use Rattle.message.specs.Cut.{Cut}
use Rattle.reading.specs.Reading.{Reading, accepted, refused, message_limit, last_number}
use Rattle.reading.specs.Checks.{refusal, counts}
use Rattle.message.specs.Reading.{reading}
use Rattle.message.proofs.Refusals.{refusal_positive}
use Rattle.message_calls.specs.Check.{tree_counts, check, check_under}

pub under_passed : (sc : Schema) (n : ℕ) (s : List ℕ) → (check_under sc n s).refusal ≡ 0
    → (length s ≤ message_limit) × ((cut : Cut) × (reading sc n s ≡ accepted cut))
unfolding check_under refusal tree_counts counts reading
under_passed sc n s e = long (ltb message_limit (length s)) refl e
  where
    read : (r : Reading Cut) → reading sc n s ≡ r → (tree_counts sc n r).refusal ≡ 0 → (cut : Cut) × (reading sc n s ≡ accepted cut)
    read (accepted cut) f e = (cut, f)
    read (refused reason place) f e = let h = refusal_positive sc 8 n 0 0 s reason place f in absurd (omega arith)

    bad : (b : Bool) → length s ≤ message_limit → (cond b (refusal refusals.table 0) (tree_counts sc n (reading sc n s))).refusal ≡ 0
        → (length s ≤ message_limit) × ((cut : Cut) × (reading sc n s ≡ accepted cut))
    bad true h e = absurd (omega arith)
    bad false h e = (h, read (reading sc n s) refl e)

    long : (b : Bool) → ltb message_limit (length s) ≡ b
        → (cond b (refusal refusals.too_long 0) (cond (ltb last_number n) (refusal refusals.table 0) (tree_counts sc n (reading sc n s)))).refusal ≡ 0
        → (length s ≤ message_limit) × ((cut : Cut) × (reading sc n s ≡ accepted cut))
    long true f e = absurd (omega arith)
    long false f e = bad (ltb last_number n) (ltb-false message_limit (length s) f) e

-- Where the check under a table and a revision accepts, so does that under their schema.
passed_under : (t : Table) (revision n : ℕ) (s : List ℕ) → (check t revision n s).refusal ≡ 0 → (check_under (schema revision t) n s).refusal ≡ 0
unfolding check refusal
passed_under t revision n s e = long (ltb message_limit (length s)) e
  where
    good : (v : Bool) → (cond v (check_under (schema revision t) n s) (refusal refusals.table 0)).refusal ≡ 0 → (check_under (schema revision t) n s).refusal ≡ 0
    good true e = e
    good false e = absurd (omega arith)

    long : (b : Bool) → (cond b (refusal refusals.too_long 0) (cond (valid t && is_revision revision) (check_under (schema revision t) n s) (refusal refusals.table 0))).refusal ≡ 0
        → (check_under (schema revision t) n s).refusal ≡ 0
    long true e = absurd (omega arith)
    long false e = good (valid t && is_revision revision) e

pub check_passed : (t : Table) (revision n : ℕ) (s : List ℕ) → (check t revision n s).refusal ≡ 0
    → (length s ≤ message_limit) × ((cut : Cut) × (reading (schema revision t) n s ≡ accepted cut))
check_passed t revision n s e = under_passed (schema revision t) n s (passed_under t revision n s e)
