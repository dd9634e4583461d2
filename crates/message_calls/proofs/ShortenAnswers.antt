-- The shortener's answer and buffer, case by case.
use Prim.Native.Nat.{ℕ, ◌+◌, ◌≤◌, ◌<◌}
use native.Mathlib.Omega.{arith}
use mathlib.Core.Path.{◌≡◌, refl, sym, ap, ◌∙◌}
use mathlib.Core.Bool.{true, false, ◌&&◌}
use mathlib.Core.List.{List}
use lib.ListN.{length}
use lib.Dec.{eqb}
use borrow.Author.Tests.{le-leb, lt-leb, eq-eqb, ne_eqb}
use Rattle.reading.specs.Reading.{message_limit}
use Rattle.reading.specs.Refusals as refusals
use Rattle.message.specs.internal.Accepts.{Accepts}
use Rattle.table.specs.Schema.{Schema, is_revision, schema}
use Rattle.table.specs.Valid.{valid}
use Rattle.table.specs.declared.Table.{Table}
use Rattle.reading.specs.internal.Verdicts.{IsAccepted}
use Rattle.message.specs.Reading.{reading}
use Rattle.message_calls.specs.Check.{check, check_under}
use Rattle.reading.specs.Checks as answers
use Rattle.reading.specs.declared.Checked.{Checked}
use Rattle.message_calls.proofs.CheckAnswers.{too_long, bad_table, under-valid}
use Rattle.octets_store.specs.Store.{stored}
use Rattle.octets_store.proofs.Stores.{stored_fits}
use Rattle.message_calls.specs.internal.Stores.{shortest_within}
use Rattle.message_calls.specs.Shorten.{refusal, shortest_under, shortest_by_table, roomy, shorten_result, result_buffer, answer, buffer}
use Rattle.message_calls.specs.internal.ShortenUnder.{shorten_under, buffer_under, accepted, copy_answer, copy_buffer}
use Rattle.message_calls.specs.declared.Shortened.{Shortened}
use Rattle.message_calls.proofs.AcceptedByCheck.{under_passed}

-- A message that the check does not refuse is short enough and accepted.
pub passed-accepts : (sc : Schema) (n : ℕ) (s : List ℕ) → (check_under sc n s).refusal ≡ 0 → (length s ≤ message_limit) × Accepts sc 8 n s
unfolding Accepts IsAccepted reading
passed-accepts sc n s e = under_passed sc n s e

pub shortestUnder-is : (sc : Schema) (n : ℕ) (s : List ℕ) → shortest_under sc n s ≡ shortest_within sc 8 n s
unfolding shortest_under shortest_within reading
shortestUnder-is sc n s = refl

pub shortestByTable-is : (t : Table) (revision n : ℕ) (s : List ℕ) → shortest_by_table t revision n s ≡ shortest_within (schema revision t) 8 n s
unfolding shortest_by_table
shortestByTable-is t revision n s = shortestUnder-is (schema revision t) n s

-- The contract's statement of the answer r and of the buffer afterwards, by the check's answer c, the shortest octets xs and the buffer before.
pub record Meets (c : Checked) (xs out : List ℕ) (r : Shortened) (after : List ℕ) : Type 0 where
  pub result_is : r ≡ shorten_result c xs out
  pub buffer-is : after ≡ result_buffer c xs out

module _ (c : Checked) (xs out : List ℕ) where
  -- The answer is a refusal, or the message was shortened.
  kept : (r : Shortened) → shorten_result c xs out ≡ r → (r.refusal ≡ 0 → ⊥) → Meets c xs out r out
  unfolding result_buffer
  kept r a ne = record { result_is = sym a; buffer-is = rw (a, ne_eqb r.refusal 0 ne) }

  pub refused-first : (d : Checked) → d ≡ c → (d.refusal ≡ 0 → ⊥) → Meets c xs out (record { refusal = d.refusal; place = d.place; length = 0 }) out
  unfolding shorten_result refusal
  refused-first d e ne =
      let f : eqb c.refusal 0 ≡ false = ap (λ (x : Checked). eqb x.refusal 0) (sym e) ∙ ne_eqb d.refusal 0 ne in
      let a : shorten_result c xs out ≡ record { refusal = d.refusal; place = d.place; length = 0 } = rw (f, ← e) in
      kept (record { refusal = d.refusal; place = d.place; length = 0 }) a ne

  module _ (e : c.refusal ≡ 0) where
    passed : eqb c.refusal 0 ≡ true
    passed = eq-eqb c.refusal 0 e

    pub no_room : length out < length xs → Meets c xs out (record { refusal = refusals.no_room; place = 0; length = 0 }) out
    unfolding shorten_result refusal roomy
    no_room h =
        let a : shorten_result c xs out ≡ record { refusal = refusals.no_room; place = 0; length = 0 } = rw (passed, lt-leb (length xs) (length out) h) in
        kept (record { refusal = refusals.no_room; place = 0; length = 0 }) a (λ z. omega arith)

    pub shortened : (end : ℕ) (after : List ℕ) → length xs ≤ length out → end ≡ 0 + length xs
        → after ≡ stored out 0 xs → Meets c xs out (record { refusal = 0; place = 0; length = end }) after
    unfolding shorten_result result_buffer roomy
    shortened end after h p b =
        let q : length xs ≡ end = omega arith in
        let a : shorten_result c xs out ≡ record { refusal = 0; place = 0; length = end } = rw (passed, le-leb (length xs) (length out) h, q) in
        record { result_is = sym a; buffer-is = b ∙ stored_fits out 0 xs (omega arith) ∙ rw a }

    -- A message that is its own shortest form is copied.
    pub copied : (s : List ℕ) → xs ≡ s → Meets c xs out (copy_answer s out) (copy_buffer s out)
    unfolding shorten_result result_buffer copy_answer copy_buffer accepted
    copied s q = record { result_is = rw (q, passed) refl; buffer-is = rw (q, passed) refl }

-- A copy that does not fit, and one that fits.
module _ (s out : List ℕ) where
  pub copy-no-room : length out < length s → (refusal refusals.no_room 0 ≡ copy_answer s out) × (out ≡ copy_buffer s out)
  unfolding copy_answer copy_buffer accepted refusal
  copy-no-room h = let r = no_room accepted s out refl h in (r.result_is, r.buffer-is)

  pub copy-fits : length s ≤ length out → (after : List ℕ) → after ≡ stored out 0 s
      → (record { refusal = 0; place = 0; length = length s } ≡ copy_answer s out) × (after ≡ copy_buffer s out)
  unfolding copy_answer copy_buffer accepted
  copy-fits h after e = let r = shortened accepted s out refl (length s) after h (omega arith) e in (r.result_is, r.buffer-is)

-- Under the schema of a table that the loader can return, the shortener has the same answer as under the table and the revision.
module _ (t : Table) (revision : ℕ) (sc : Schema) (same : sc ≡ schema revision t) (n : ℕ) (s out : List ℕ) (h : length s ≤ message_limit)
    (v : valid t && is_revision revision ≡ true) where
  pub answer-under : shorten_under sc n s out ≡ answer t revision n s out
  unfolding shorten_under answer shortest_by_table
  answer-under = rw (under-valid t revision n s h v sc same, same) refl

  pub buffer-under : buffer_under sc n s out ≡ buffer t revision n s out
  unfolding buffer_under buffer shortest_by_table
  buffer-under = rw (under-valid t revision n s h v sc same, same) refl

-- A message that is too long, and a table that the loader cannot return or a number that is no revision.
module _ (t : Table) (revision n : ℕ) (s out : List ℕ) where
  pub too-long-refused : message_limit < length s
      → (refusal refusals.too_long 0 ≡ answer t revision n s out) × (out ≡ buffer t revision n s out)
  unfolding refusal answers.refusal answer buffer
  too-long-refused h =
      let r = refused-first (check t revision n s) (shortest_by_table t revision n s) out (answers.refusal refusals.too_long 0) (too_long t revision n s h) (λ z. omega arith) in
      (r.result_is, r.buffer-is)

  pub bad-table-refused : length s ≤ message_limit → valid t && is_revision revision ≡ false
      → (refusal refusals.table 0 ≡ answer t revision n s out) × (out ≡ buffer t revision n s out)
  unfolding refusal answers.refusal answer buffer
  bad-table-refused h v =
      let r = refused-first (check t revision n s) (shortest_by_table t revision n s) out (answers.refusal refusals.table 0) (bad_table t revision n s h v) (λ z. omega arith) in
      (r.result_is, r.buffer-is)

-- A refused call leaves the second buffer as it was.
pub refused-leaves : (t : Table) (revision n : ℕ) (s out : List ℕ) → ((answer t revision n s out).refusal ≡ 0 → ⊥) → buffer t revision n s out ≡ out
unfolding answer buffer result_buffer
refused-leaves t revision n s out ne = rw (ne_eqb (shorten_result (check t revision n s) (shortest_by_table t revision n s) out).refusal 0 ne) refl
