-- What stands behind the check: a lookup, the shortener and the answer whether a message is short accept only what the check accepts, and the check
-- only what passes its test of table and revision.
use Prim.Native.Nat.{ℕ}
use native.Mathlib.Omega.{arith}
use mathlib.Core.Path.{◌≡◌, refl, sym, ap, ◌∙◌}
use mathlib.Core.Bool.{Bool, true, false, cond, ◌&&◌}
use mathlib.Core.List.{List}
use lib.ListN.{length}
use lib.Dec.{ltb, eqb}
use borrow.Author.Tests.{eqb-true}
use Rattle.octets.proofs.Bools.{and_left}
use Rattle.reading.specs.Reading.{message_limit}
use Rattle.reading.specs.Checks as answers
use Rattle.reading.specs.declared.Checked.{Checked}
use Rattle.table.specs.Load.{load}
use Rattle.table.specs.Schema.{is_revision, schema}
use Rattle.table.specs.Valid.{valid}
use Rattle.table.specs.declared.Table.{Table}
use Rattle.message_calls.specs.Check.{check, check_under}
use Rattle.message_calls.specs.Short.{short}
use Rattle.message_calls.specs.Lookup as lookups
use Rattle.message_calls.specs.declared.Found.{Found}
use Rattle.message_calls.specs.Shorten as shortens
use Rattle.message_calls.specs.declared.Shortened.{Shortened}
use Rattle.message_calls.specs.Calls.{with_table, check_octets, lookup_octets, lookup_last_octets, shorten_octets}
use Rattle.message_calls.proofs.CallsByOctets.{table_loaded, not_refused, check_as_loaded}

-- A choice by the check's refusal, where the refused side has that refusal too.
by_refusal : {B : Type 0} (refusal : B → ℕ) (n : ℕ) (accepted refused : B) → refusal refused ≡ n → refusal (cond (eqb n 0) accepted refused) ≡ 0 → n ≡ 0
by_refusal refusal n accepted refused r e = go (eqb n 0) refl e
  where
    go : (b : Bool) → eqb n 0 ≡ b → refusal (cond b accepted refused) ≡ 0 → n ≡ 0
    go true f e = eqb-true n 0 f
    go false f e = sym r ∙ e

abbrev found_refusal : Found → ℕ
found_refusal r = r.refusal

abbrev shortened_refusal : Shortened → ℕ
shortened_refusal r = r.refusal

-- With a table value.
module _ (t : Table) (revision n : ℕ) (s : List ℕ) where
  pub check_tested : (check t revision n s).refusal ≡ 0 → valid t && is_revision revision ≡ true
  unfolding check answers.refusal
  check_tested e = long (ltb message_limit (length s)) e
    where
      good : (v : Bool) → (cond v (check_under (schema revision t) n s) (answers.refusal 2 0)).refusal ≡ 0 → v ≡ true
      good true e = refl
      good false e = absurd (omega arith)

      long : (b : Bool)
          → (cond b (answers.refusal 1 0) (cond (valid t && is_revision revision) (check_under (schema revision t) n s) (answers.refusal 2 0))).refusal ≡ 0
          → valid t && is_revision revision ≡ true
      long true e = absurd (omega arith)
      long false e = good (valid t && is_revision revision) e

  pub short_checked : short t revision n s ≡ true → (check t revision n s).refusal ≡ 0
  unfolding short
  short_checked e = eqb-true (check t revision n s).refusal 0 (and_left (eqb (check t revision n s).refusal 0) _ e)

  pub lookup_checked : (tag k : ℕ) → (lookups.lookup t revision n s tag k).refusal ≡ 0 → (check t revision n s).refusal ≡ 0
  unfolding lookups.lookup lookups.answer lookups.refusal
  lookup_checked tag k e = by_refusal found_refusal (check t revision n s).refusal _ _ refl e

  pub last_checked : (tag : ℕ) → (lookups.lookup_last t revision n s tag).refusal ≡ 0 → (check t revision n s).refusal ≡ 0
  unfolding lookups.lookup_last lookups.answer lookups.refusal
  last_checked tag e = by_refusal found_refusal (check t revision n s).refusal _ _ refl e

  pub shorten_checked : (out : List ℕ) → (shortens.answer t revision n s out).refusal ≡ 0 → (check t revision n s).refusal ≡ 0
  unfolding shortens.answer shortens.shorten_result shortens.refusal
  shorten_checked out e = by_refusal shortened_refusal (check t revision n s).refusal _ _ refl e

-- With the octets of a table.
module _ (octets : List ℕ) (revision n : ℕ) (s : List ℕ) where
  abbrev checked : ℕ
  checked = (check_octets octets revision n s).refusal

  -- A call accepts only what the check accepts, if it does so with a table value.
  behind : {B : Type 0} (refusal : B → ℕ) (under : Table → B) (refuse : ℕ → ℕ → B) → ((reason place : ℕ) → refusal (refuse reason place) ≡ reason)
      → ((t : Table) → refusal (under t) ≡ 0 → (check t revision n s).refusal ≡ 0) → refusal (with_table octets s under refuse) ≡ 0 → checked ≡ 0
  behind refusal under refuse told only e =
      let w = not_refused octets s under refuse refusal told e in
      let loaded = table_loaded octets s under refuse w.0 (load octets) refl w.1 in
      ap (λ (c : Checked). c.refusal) (check_as_loaded octets s w.1 w.0 revision n) ∙ only (load octets).table (ap refusal loaded ∙ e)

  pub lookup_octets_checked : (tag k : ℕ) → (lookup_octets octets revision n s tag k).refusal ≡ 0 → checked ≡ 0
  unfolding lookup_octets lookups.refusal
  lookup_octets_checked tag k e =
      behind found_refusal (λ t. lookups.lookup t revision n s tag k) lookups.refusal (λ reason place. refl)
      (λ t e. lookup_checked t revision n s tag k e) e

  pub last_octets_checked : (tag : ℕ) → (lookup_last_octets octets revision n s tag).refusal ≡ 0 → checked ≡ 0
  unfolding lookup_last_octets lookups.refusal
  last_octets_checked tag e =
      behind found_refusal (λ t. lookups.lookup_last t revision n s tag) lookups.refusal (λ reason place. refl)
      (λ t e. last_checked t revision n s tag e) e

  pub shorten_octets_checked : (out : List ℕ) → (shorten_octets octets revision n s out).refusal ≡ 0 → checked ≡ 0
  unfolding shorten_octets shortens.refusal
  shorten_octets_checked out e =
      behind shortened_refusal (λ t. shortens.answer t revision n s out) shortens.refusal (λ reason place. refl)
      (λ t e. shorten_checked t revision n s out e) e
