-- The answers of the calls that take the octets of a table, case by case.
use Prim.Native.Nat.{ℕ, ◌≤◌, ◌<◌}
use native.Mathlib.Omega.{arith}
use mathlib.Core.Path.{◌≡◌, refl, sym, ap, ◌∙◌}
use mathlib.Core.Bool.{Bool, true, false, ◌&&◌}
use mathlib.Core.List.{List}
use lib.ListN.{length}
use lib.Dec.{ltb, eqb}
use borrow.Author.Tests.{ltb-true, ltb-false, le-ltb, lt-ltb, eqb-true, eqb-false, eq-eqb, ne_eqb}
use Rattle.reading.specs.Refusals as refusals
use Rattle.octets.specs.Number.{Octets}
use Rattle.octets.proofs.Bools.{and_both}
use Rattle.table.specs.Schema.{is_revision, schema}
use Rattle.table.specs.Entry.{entries}
use Rattle.table.specs.Load.{Loaded, load}
use Rattle.table.specs.Valid.{valid}
use Rattle.table.specs.declared.Table.{Table}
use Rattle.table.proofs.LoadResults.{loaded_valid}
use Rattle.table.proofs.Schemas as tables
use Rattle.table.proofs.Schemas.{Unmarked}
use Rattle.message_calls.specs.Calls.{with_table, check_octets, short_octets, shorten_octets, shorten_buffer}
use Rattle.reading.specs.Reading.{message_limit}
use Rattle.reading.specs.Checks as answers
use Rattle.message_calls.specs.Check.{check}
use Rattle.message_calls.specs.Short.{short}
use Rattle.message_calls.specs.Shorten as shortens
use Rattle.message_calls.specs.Shorten.{answer, buffer}

module _ {A : Type 0} (octets s : List ℕ) (under : Table → A) (refuse : ℕ → ℕ → A) where
  pub message_too_long : message_limit < length s → refuse refusals.too_long 0 ≡ with_table octets s under refuse
  unfolding with_table
  message_too_long h = rw (lt-ltb message_limit (length s) h)

  module _ (h : length s ≤ message_limit) (l : Loaded) (e : l ≡ load octets) where
    pub table_refused : (l.refusal ≡ 0 → ⊥) → refuse l.refusal l.place ≡ with_table octets s under refuse
    unfolding with_table
    table_refused ne = rw (le-ltb message_limit (length s) h, ← e, ne_eqb l.refusal 0 ne)

    pub table_loaded : l.refusal ≡ 0 → under l.table ≡ with_table octets s under refuse
    unfolding with_table
    table_loaded z = rw (le-ltb message_limit (length s) h, ← e, eq-eqb l.refusal 0 z)

  -- Where a call is not refused, the message is within the limit and the table loads.
  pub not_refused : (reasonOf : A → ℕ) → ((reason place : ℕ) → reasonOf (refuse reason place) ≡ reason) → reasonOf (with_table octets s under refuse) ≡ 0
      → (length s ≤ message_limit) × ((load octets).refusal ≡ 0)
  not_refused reasonOf told z = let h = within (ltb message_limit (length s)) refl in (h, found h (eqb (load octets).refusal 0) refl)
    where
      within : (b : Bool) → ltb message_limit (length s) ≡ b → length s ≤ message_limit
      within true e =
          let k = sym (told refusals.too_long 0) ∙ ap reasonOf (message_too_long (ltb-true message_limit (length s) e)) ∙ z in
          absurd (omega arith)
      within false e = ltb-false message_limit (length s) e

      found : length s ≤ message_limit → (b : Bool) → eqb (load octets).refusal 0 ≡ b → (load octets).refusal ≡ 0
      found h true e = eqb-true (load octets).refusal 0 e
      found h false e =
          sym (told (load octets).refusal (load octets).place)
          ∙ ap reasonOf (table_refused h (load octets) refl (eqb-false (load octets).refusal 0 e)) ∙ z

-- A table that loads passes the test of table and revision under either revision.
pub loaded_good : (octets : List ℕ) (revision : ℕ) → Octets octets → (load octets).refusal ≡ 0 → is_revision revision ≡ true
    → valid (load octets).table && is_revision revision ≡ true
loaded_good octets revision o z known =
    and_both (valid (load octets).table) (is_revision revision) (loaded_valid octets (load octets) o refl z) known

-- Where a table loads and a message is within the limit, the calls that take the table's octets answer as those that take the table: what
-- demand 3 says of check and shortener holds of them.
module _ (octets s : List ℕ) (z : (load octets).refusal ≡ 0) (h : length s ≤ message_limit) (revision n : ℕ) where
  pub check_as_loaded : check_octets octets revision n s ≡ check (load octets).table revision n s
  unfolding check_octets
  check_as_loaded = sym (table_loaded octets s (λ (t : Table). check t revision n s) answers.refusal h (load octets) refl z)

  pub short_as_loaded : short_octets octets revision n s ≡ short (load octets).table revision n s
  unfolding short_octets
  short_as_loaded = sym (table_loaded octets s (λ (t : Table). short t revision n s) (λ (reason place : ℕ). false) h (load octets) refl z)

  pub shorten_as_loaded : (out : List ℕ) → shorten_octets octets revision n s out ≡ answer (load octets).table revision n s out
  unfolding shorten_octets
  shorten_as_loaded out = sym (table_loaded octets s (λ (t : Table). answer t revision n s out) shortens.refusal h (load octets) refl z)

  pub buffer_as_loaded : (out : List ℕ) → shorten_buffer octets revision n s out ≡ buffer (load octets).table revision n s out
  unfolding shorten_buffer
  buffer_as_loaded out =
      sym (table_loaded octets s (λ (t : Table). buffer t revision n s out) (λ (reason place : ℕ). out) h (load octets) refl z)

-- Where no entry of the table has a mark, as with records of length 5, both revisions give the same answer of the check.
pub revisions_alike : (octets : List ℕ) (n : ℕ) (s : List ℕ) → Unmarked (entries (load octets).table) → check_octets octets 1 n s ≡ check_octets octets 2 n s
unfolding check_octets with_table check schema is_revision
revisions_alike octets n s u = rw (tables.revisions_alike (entries (load octets).table) u) refl
