-- Programs in the place of the calls of the writer that leave out a test: of the table value, of the revision, of the state, or of the buffer's
-- length.
use Prim.Native.Nat.{ℕ, ◌<◌}
use native.Mathlib.Omega.{arith}
use mathlib.Core.Path.{◌≡◌}
use mathlib.Core.Bool.{true, and-false}
use lib.ListN.{length}
use lib.Dec.{eqb}
use borrow.Author.Tests.{eqb-true}
use Rattle.table.specs.Valid.{valid}
use Rattle.table.specs.declared.Table.{Table}
use Rattle.writer_state.specs.Sound.{sound}
use Rattle.writer_state.specs.Answer as writes
use Rattle.writer_state.specs.Calls as calls
use Rattle.writer_state.specs.Calls.{or_refuse}
use Rattle.writer_state.specs.declared.State.{State}
use Rattle.writer_state.specs.declared.Written.{Written}
use Rattle.writer_state.specs.Finished.{Finished}
use Rattle.writer_state.proofs.Conditions.{passed as met, StartMet, start_met}
use Rattle.wrong_programs.specs.Kinds as kinds
use Rattle.wrong_programs.specs.Kinds.{RuledOut, AcceptsSome, refusal_of}
use Rattle.wrong_programs.specs.Writer as writing
use Rattle.wrong_programs.specs.Writer.{StartCall, start, Put, uint, int, octets, PutCall, Outcome, put, OpenCall, open_field, CloseCall, close_field, StateCall, finish, sound_state}
use Rattle.wrong_programs.specs.Faults.{BadTableRuledOut, BadRevisionRuledOut, BadStateRuledOut}
use Rattle.wrong_programs.proofs.RulingOut.{accepts_some}
use Rattle.wrong_programs.proofs.Faults.{equal, holds, bad_table_lem, bad_revision, bad_state}

-- The tests that put, open and close share, with what comes after them.
state_and_table : (t : Table) (s : State) (next : ℕ) → or_refuse (sound s) 10 (or_refuse (valid t) 2 next) ≡ 0 → (sound s ≡ true) × (valid t ≡ true)
state_and_table t s next e =
    let a = met (sound s) 10 (or_refuse (valid t) 2 next) (omega arith) e in
    (a.0, (met (valid t) 2 next (omega arith) a.1).0)

-- Those of put and close begin with that of the buffer's length.
record Passed (t : Table) (s : State) (len : ℕ) : Type 0 where
  same_length : len ≡ s.length
  state_sound : sound s ≡ true
  table_valid : valid t ≡ true

passed : (t : Table) (s : State) (len next : ℕ)
    → or_refuse (eqb len s.length) 10 (or_refuse (sound s) 10 (or_refuse (valid t) 2 next)) ≡ 0 → Passed t s len
passed t s len next e =
    let a = met (eqb len s.length) 10 (or_refuse (sound s) 10 (or_refuse (valid t) 2 next)) (omega arith) e in
    let b = state_and_table t s next a.1 in
    record { same_length = eqb-true len s.length a.0; state_sound = b.0; table_valid = b.1 }

-- ---- put_uint, put_int and put_octets

abbrev outcome_refusal : Outcome → ℕ
outcome_refusal r = r.answer.refusal

module _ (p : Put) where
  abbrev table : PutCall p → Table
  table x = x.value.table

  abbrev state : PutCall p → State
  state x = x.value.state

  abbrev size : PutCall p → ℕ
  size x = length x.value.buffer

put_passed : (p : Put) (x : PutCall p) → outcome_refusal (put p x) ≡ 0 → Passed (table p x) (state p x) (size p x)
unfolding put writing.call_of writing.Value writes.answer calls.put calls.call_result calls.put_refusal
put_passed uint x e = passed (table uint x) (state uint x) (size uint x) _ e
put_passed int x e = passed (table int x) (state int x) (size int x) _ e
put_passed octets x e = passed (table octets x) (state octets x) (size octets x) _ e

module _ (p : Put) where
  words_64 : (x : PutCall p) → length (table p x).words ≡ 64
  unfolding writing.put_fits kinds.table kinds.array
  words_64 x = equal (length (table p x).words) 64 (λ e. simp (e, and-false) at x.in_range)

  seven_marks : (x : PutCall p) → length (state p x).marks ≡ 7
  unfolding writing.put_fits writing.state_fits kinds.array
  seven_marks x = equal (length (state p x).marks) 7 (λ e. simp (e, and-false) at x.in_range)

  pub put_accepts_bad_table : BadTableRuledOut (put p) outcome_refusal (table p)
  put_accepts_bad_table = bad_table_lem outcome_refusal (table p) words_64 (λ x e. (put_passed p x e).table_valid)

  pub put_accepts_bad_state : BadStateRuledOut (put p) outcome_refusal (state p)
  put_accepts_bad_state = bad_state outcome_refusal (state p) seven_marks (λ x e. (put_passed p x e).state_sound)

  -- It accepts a buffer of another length than `start` got.
  pub put_accepts_other_buffer : RuledOut (AcceptsSome outcome_refusal (λ (x : PutCall p). size p x ≡ (state p x).length → ⊥)) (put p)
  put_accepts_other_buffer = accepts_some outcome_refusal _ (λ x w e. w (put_passed p x e).same_length)

-- ---- close_field

abbrev close_table : CloseCall → Table
close_table x = x.value.table

abbrev close_state : CloseCall → State
close_state x = x.value.state

abbrev close_size : CloseCall → ℕ
close_size x = length x.value.buffer

close_passed : (x : CloseCall) → outcome_refusal (close_field x) ≡ 0 → Passed (close_table x) (close_state x) (close_size x)
unfolding close_field writes.answer calls.closing calls.call_result calls.close_refusal calls.close_early
close_passed x e = passed (close_table x) (close_state x) (close_size x) _ e

pub close_accepts_bad_table : BadTableRuledOut close_field outcome_refusal close_table
unfolding writing.close_fits kinds.table kinds.array
close_accepts_bad_table =
    bad_table_lem outcome_refusal close_table (λ x. equal (length (close_table x).words) 64 (λ e. simp (e, and-false) at x.in_range))
    (λ x e. (close_passed x e).table_valid)

pub close_accepts_bad_state : BadStateRuledOut close_field outcome_refusal close_state
unfolding writing.close_fits writing.state_fits kinds.array
close_accepts_bad_state =
    bad_state outcome_refusal close_state (λ x. equal (length (close_state x).marks) 7 (λ e. simp (e, and-false) at x.in_range))
    (λ x e. (close_passed x e).state_sound)

pub close_accepts_other_buffer : RuledOut (AcceptsSome outcome_refusal (λ (x : CloseCall). close_size x ≡ (close_state x).length → ⊥)) close_field
close_accepts_other_buffer = accepts_some outcome_refusal _ (λ x w e. w (close_passed x e).same_length)

-- ---- open_field, which is given no buffer

abbrev refusal : Written → ℕ
refusal r = r.refusal

abbrev open_table : OpenCall → Table
open_table x = x.value.table

abbrev open_state : OpenCall → State
open_state x = x.value.state

open_passed : (x : OpenCall) → refusal (open_field x) ≡ 0 → (sound (open_state x) ≡ true) × (valid (open_table x) ≡ true)
unfolding open_field writes.answer calls.opening calls.call_result calls.open_refusal
open_passed x e = state_and_table (open_table x) (open_state x) _ e

pub open_accepts_bad_table : BadTableRuledOut open_field refusal open_table
unfolding writing.open_fits kinds.table kinds.array
open_accepts_bad_table =
    bad_table_lem refusal open_table (λ x. equal (length (open_table x).words) 64 (λ e. simp (e, and-false) at x.in_range))
    (λ x e. (open_passed x e).1)

pub open_accepts_bad_state : BadStateRuledOut open_field refusal open_state
unfolding writing.open_fits writing.state_fits kinds.array
open_accepts_bad_state =
    bad_state refusal open_state (λ x. equal (length (open_state x).marks) 7 (λ e. simp (e, and-false) at x.in_range))
    (λ x e. (open_passed x e).0)

-- ---- finish and sound, which are given the state alone

pub finish_accepts_bad_state : BadStateRuledOut finish (λ (r : Finished). r.refusal) (λ (x : StateCall). x.value)
unfolding writing.state_fits kinds.array finish calls.finished calls.finish_refusal
finish_accepts_bad_state =
    bad_state (λ (r : Finished). r.refusal) (λ (x : StateCall). x.value)
    (λ x. equal (length x.value.marks) 7 (λ e. simp (e, and-false) at x.in_range))
    (λ x e. (met (sound x.value) 10 _ (omega arith) e).0)

pub sound_accepts_bad_state : BadStateRuledOut sound_state refusal_of (λ (x : StateCall). x.value)
unfolding writing.state_fits kinds.array sound_state
sound_accepts_bad_state =
    bad_state refusal_of (λ (x : StateCall). x.value)
    (λ x. equal (length x.value.marks) 7 (λ e. simp (e, and-false) at x.in_range))
    (λ x e. holds (sound x.value) e)

-- ---- start

module _ (x : StartCall) where
  start_passed : refusal (start x) ≡ 0 → StartMet x.value.table x.value.revision x.value.number (length x.value.buffer)
  unfolding start calls.started calls.call_result
  start_passed e = start_met x.value.table x.value.revision x.value.number (length x.value.buffer) e

pub start_accepts_bad_table : BadTableRuledOut start refusal (λ (x : StartCall). x.value.table)
unfolding writing.start_fits kinds.table kinds.array
start_accepts_bad_table =
    bad_table_lem refusal (λ (x : StartCall). x.value.table)
    (λ x. equal (length x.value.table.words) 64 (λ e. simp (e, and-false) at x.in_range))
    (λ x e. (start_passed x e).table)

pub start_accepts_other_revision : BadRevisionRuledOut start refusal (λ (x : StartCall). x.value.revision)
start_accepts_other_revision = bad_revision refusal (λ (x : StartCall). x.value.revision) (λ x e. (start_passed x e).profile)

-- It accepts a buffer over 65,536 octets, or a number over 15.
pub start_accepts_long_buffer : RuledOut (AcceptsSome refusal (λ (x : StartCall). 65536 < length x.value.buffer)) start
start_accepts_long_buffer = accepts_some refusal _ (λ x w e. let h = (start_passed x e).within_limit in omega arith)

pub start_accepts_number_over_15 : RuledOut (AcceptsSome refusal (λ (x : StartCall). 15 < x.value.number)) start
start_accepts_number_over_15 = accepts_some refusal _ (λ x w e. let h = (start_passed x e).small in omega arith)
