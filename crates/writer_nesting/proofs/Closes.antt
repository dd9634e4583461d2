-- The answer of a close and the buffer after it, case by case.
use Prim.Native.Nat.{ℕ, ◌-◌, ◌≤◌, ◌<◌}
use native.Mathlib.Omega.{arith}
use mathlib.Core.Path.{◌≡◌, refl, sym, ◌∙◌}
use mathlib.Core.Bool.{true, false}
use mathlib.Core.List.{List}
use lib.ListN.{length}
use lib.Dec.{eqb}
use borrow.Author.Tests.{le-leb, lt-leb}
use Rattle.std.specs.Prelude.{Err}
use Rattle.reading.specs.declared.Fault.{Fault}
use Rattle.reading.specs.declared.Refusal.TheVariants as Refusal
use Rattle.table.specs.Load.{refused, load}
use Rattle.table.specs.Valid.{valid}
use Rattle.table.specs.declared.Table.{Table}
use Rattle.octets_store.specs.Store.{stored}
use Rattle.writer_state.specs.Answer as writes
use Rattle.writer_state.specs.ByOctets.{refused_at, usable, usable_for, answer_octets, buffer_octets}
use Rattle.writer_state.specs.Call.{close_field}
use Rattle.writer_state.specs.Calls.{or_refuse, back, closing_part, close_early, close_refusal, closing, close_buffer, outer}
use Rattle.writer_state.specs.declared.State.{State}
use Rattle.writer_state.specs.declared.Written.{Written}
use Rattle.writer_state.specs.Results.{written}
use Rattle.writer_state.specs.Sound.{sound}
use Rattle.writer_state.specs.internal.Found.{IsIndex}
use Rattle.writer_state.proofs.ByOctets.{by_before, by_refused, by_loaded}
use Rattle.writer_state.proofs.TagKinds.{unusable, usable_passed}
use Rattle.writer_state.proofs.CallResults.{refused_result, accepted_result, refused_buffer, accepted_buffer}
use Rattle.writer_nesting.specs.internal.Nesting.{close_rest, closed, closed_buffer}

-- ---- the cases of `close_usable`

module _ (s : State) (d : List ℕ) where
  -- What its contract says of the answer r and of the buffer after it.
  pub record UsableDone (r : Written) (after : List ℕ) : Type 0 where
    pub value : r ≡ closed s
    pub out_after : after ≡ closed_buffer s d

  rest_refused : (got : ℕ) → got ≡ close_rest s → (got ≡ 0 → ⊥) → {r : Written} → r ≡ record { refusal = got; place = 0; state = s } → UsableDone r d
  unfolding closed closed_buffer
  rest_refused got e ne q =
      let size = length (closing_part s) in
      record {
        value = q ∙ refused_result got (close_rest s) s (outer (back s size)) s e ne refl;
        out_after = refused_buffer got (close_rest s) d (stored d (s.start - size) (closing_part s)) e ne;
      }

  pub rest_none : s.opened ≡ 0 → {r : Written} → r ≡ record { refusal = 11; place = 0; state = s } → UsableDone r d
  unfolding close_rest or_refuse
  rest_none h = rest_refused 11 (rw h refl) (λ z. omega arith)

  module _ (some : 1 ≤ s.opened) where
    pub rest_long : s.start < length (closing_part s) → {r : Written} → r ≡ record { refusal = 9; place = 0; state = s } → UsableDone r d
    unfolding close_rest or_refuse
    rest_long h = rest_refused 9 (rw (le-leb 1 s.opened some, lt-leb (length (closing_part s)) s.start h) refl) (λ z. omega arith)

    -- The state after a close that stored `size` octets.
    abbrev closed_state : ℕ → State
    closed_state size =
        record {
          length = s.length;
          start = s.start - size;
          opened = s.opened - 1;
          revision = s.revision;
          numbers = s.numbers;
          masks = s.masks;
          marks = s.marks;
          tags = s.tags;
        }

    pub rest_accepted : (after : List ℕ) (size : ℕ) → size ≡ length (closing_part s) → size ≤ s.start
        → after ≡ stored d (s.start - size) (closing_part s)
        → UsableDone (record { refusal = 0; place = 0; state = closed_state size }) after
    unfolding closed closed_buffer close_rest or_refuse outer back
    rest_accepted after size e h b =
        let part = length (closing_part s) in
        let z : close_rest s ≡ 0 = rw (le-leb 1 s.opened some, le-leb part s.start (omega arith)) refl in
        record {
          value = accepted_result (close_rest s) s (outer (back s part)) (closed_state size) z (rw e refl);
          out_after = accepted_buffer (close_rest s) d (stored d (s.start - part) (closing_part s)) after z (b ∙ rw e refl);
        }

-- ---- under a loaded table

module _ (t : Table) (s : State) (d : List ℕ) where
  abbrev after_state : ℕ
  after_state = or_refuse (valid t) 2 (close_rest s)

  -- What the contract of `close_field` says.
  pub record TableDone (r : Written) (after : List ℕ) : Type 0 where
    pub value : r ≡ writes.answer t s d close_field
    pub out_after : after ≡ writes.buffer t s d close_field

  refused_close : (n : ℕ) → n ≡ close_refusal t s (length d) → (n ≡ 0 → ⊥) → TableDone (record { refusal = n; place = 0; state = s }) d
  unfolding writes.answer writes.buffer closing close_buffer
  refused_close n e ne =
      let size = length (closing_part s) in
      record {
        value = refused_result n (close_refusal t s (length d)) s (outer (back s size)) s e ne refl;
        out_after = refused_buffer n (close_refusal t s (length d)) d (stored d (s.start - size) (closing_part s)) e ne;
      }

  pub table_unusable : false ≡ usable s (length d) → TableDone (record { refusal = 10; place = 0; state = s }) d
  unfolding close_refusal close_early close_rest usable
  table_unusable u = refused_close 10 (sym (unusable (eqb (length d) s.length) (sound s) after_state (sym u))) (λ z. omega arith)

  module _ (u : usable s (length d) ≡ true) where
    -- After the test of the state a close is refused for the table or for the rest.
    rest_decides : close_refusal t s (length d) ≡ after_state
    unfolding close_refusal close_early close_rest usable
    rest_decides = usable_passed (eqb (length d) s.length) (sound s) after_state u

    pub table_faulty : valid t ≡ false → TableDone (record { refusal = 2; place = 0; state = s }) d
    unfolding or_refuse
    table_faulty v = refused_close 2 (sym (rest_decides ∙ rw v refl)) (λ z. omega arith)

    pub table_closed : valid t ≡ true → {r : Written} {after : List ℕ} → r ≡ closed s → after ≡ closed_buffer s d → TableDone r after
    unfolding writes.answer writes.buffer closing close_buffer closed closed_buffer or_refuse
    table_closed v p q =
        let e : close_refusal t s (length d) ≡ close_rest s = rest_decides ∙ rw v refl in
        record { value = p ∙ rw (← e) refl; out_after = q ∙ rw (← e) refl }

-- ---- under the octets of a table

module _ (octets : List ℕ) (s : State) (d : List ℕ) where
  abbrev answers : Table → Written
  answers t = writes.answer t s d close_field

  abbrev buffers : Table → List ℕ
  buffers t = writes.buffer t s d close_field

  -- What the contract of `close_field_by_octets` says.
  pub record OctetsDone (r : Written) (after : List ℕ) : Type 0 where
    pub value : r ≡ answer_octets octets s d close_field
    pub out_after : after ≡ buffer_octets octets s d close_field

  pub octets_unusable : usable s (length d) ≡ false → OctetsDone (record { refusal = 10; place = 0; state = s }) d
  unfolding answer_octets buffer_octets usable_for refused_at
  octets_unusable u =
      record {
        value = sym (by_before (usable s (length d)) 10 octets answers (refused_at s) u);
        out_after = sym (by_before (usable s (length d)) 10 octets buffers (λ (reason place : ℕ). d) u);
      }

  module _ (u : usable s (length d) ≡ true) where
    pub octets_faulty : (f : Fault) → f.refusal ≡ Refusal.Table → load octets ≡ refused f.place → OctetsDone (written s (Err f)) d
    unfolding answer_octets buffer_octets usable_for refused_at
    octets_faulty f e l =
        record {
          value = rw e (sym (by_refused (usable s (length d)) 10 octets answers (refused_at s) u f.place l));
          out_after = sym (by_refused (usable s (length d)) 10 octets buffers (λ (reason place : ℕ). d) u f.place l);
        }

    pub octets_closed : {cells : List ℕ} → IsIndex octets s.revision cells → {r : Written} {after : List ℕ} → r ≡ closed s → after ≡ closed_buffer s d
        → OctetsDone r after
    unfolding answer_octets buffer_octets usable_for
    octets_closed i p q =
        let e = table_closed (load octets).table s d u i.good p q in
        record {
          value = e.value ∙ sym (by_loaded (usable s (length d)) 10 octets answers (refused_at s) u i.loads);
          out_after = e.out_after ∙ sym (by_loaded (usable s (length d)) 10 octets buffers (λ (reason place : ℕ). d) u i.loads);
        }
