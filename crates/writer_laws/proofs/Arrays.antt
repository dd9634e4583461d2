-- Demand 2 holds for the calls that C programs make. specs/Arrays.antt states it.
use Prim.Native.Nat.{ℕ}
use native.Mathlib.Omega.{arith}
use mathlib.Core.Path.{◌≡◌, refl, sym, ap, ◌∙◌, subst}
use mathlib.Core.Bool.{Bool, true, false, and-false}
use mathlib.Core.List.{List}
use lib.ListN.{length, replicate}
use lib.Dec.{eqb, leb}
use borrow.Author.Tests.{eqb-true, eq-eqb, ne_eqb}
use Rattle.reading.specs.Reading.{message_limit}
use Rattle.reading.specs.declared.Checked.{Checked}
use Rattle.table.specs.Load.{load}
use Rattle.table.specs.Schema.{is_revision}
use Rattle.table.specs.declared.Table.{Table}
use Rattle.message.specs.Tree.{end}
use Rattle.message_calls.specs.Check.{check}
use Rattle.message_calls.specs.Calls.{check_octets}
use Rattle.message_calls.proofs.CallsByOctets.{check_as_loaded}
use Rattle.writer_state.specs.Call.{Call, put_uint, put_int, put_octets, open_field, close_field}
use Rattle.writer_state.specs.Sound.{sound}
use Rattle.writer_state.specs.Calls.{or_refuse, begun, started, finish_refusal, finished}
use Rattle.writer_state.specs.Answer.{answer, buffer, writer}
use Rattle.writer_state.specs.ByOctets.{by_octets, refused_at, started_octets, usable, usable_for, answer_octets, buffer_octets}
use Rattle.writer_state.specs.declared.State.{State}
use Rattle.writer_state.specs.declared.Written.{Written}
use Rattle.writer_state.proofs.ByOctets.{by_before, by_loaded, by_accepted, by_map}
use Rattle.writer_words.specs.Words.{CallAnswer, untagged, words_of, holds, state_of, used_after, array_after, start_words, call_words, call_buffer, finish_words}
use Rattle.writer_words.proofs.Arrays.{other_unheld, unheld}
use Rattle.writer_words.proofs.Answers as answers
use Rattle.writer_laws.specs.Given.{Given, message}
use Rattle.writer_laws.specs.Run as runs
use Rattle.writer_laws.specs.Run.{Run, InRange, giving}
use Rattle.writer_laws.specs.Arrays.{ArrayRun, start, next, refusal_of_array_start, ArrayDemand2Holds}
use Rattle.writer_laws.specs.Refusal.{refusal_of_start, refusal_of_call}
use Rattle.writer_laws.specs.Demand2.{Demand2, AfterRun}
use Rattle.writer_laws.proofs.Accepted.{run_reached}
use Rattle.writer_laws.proofs.ArrayStates.{reached_usable, run_state, call_array}
use Rattle.writer_laws.proofs.Demand2.{demand_2}

-- ---- accepted calls by octets answer as those under the loaded table

abbrev refusal_in : Written → ℕ
refusal_in w = w.refusal

module _ (octets : List ℕ) (revision number len : ℕ) (e : (started_octets octets revision number len).refusal ≡ 0) where
  abbrev under : Table → Written
  under t = started t revision number len

  start_accepted : (leb len message_limit ≡ true) × ((load octets).refusal ≡ 0)
  unfolding started_octets
  start_accepted = by_accepted refusal_in (leb len message_limit) 1 octets under (refused_at (begun 0 0 0)) (λ z. omega arith) (λ k place. unfold refused_at in refl) e

  start_loaded : started_octets octets revision number len ≡ started (load octets).table revision number len
  unfolding started_octets
  start_loaded = by_loaded (leb len message_limit) 1 octets under (refused_at (begun 0 0 0)) start_accepted.0 start_accepted.1

module _ (octets : List ℕ) (s : State) (d : List ℕ) (c : Call) (e : (answer_octets octets s d c).refusal ≡ 0) where
  call_accepted : (usable_for s d c ≡ true) × ((load octets).refusal ≡ 0)
  unfolding answer_octets
  call_accepted =
      by_accepted refusal_in (usable_for s d c) 10 octets (λ (t : Table). answer t s d c) (refused_at s) (λ z. omega arith) (λ k place. unfold refused_at in refl) e

  call_loaded : answer_octets octets s d c ≡ answer (load octets).table s d c
  unfolding answer_octets
  call_loaded = by_loaded (usable_for s d c) 10 octets (λ (t : Table). answer t s d c) (refused_at s) call_accepted.0 call_accepted.1

  buffer_loaded : buffer_octets octets s d c ≡ buffer (load octets).table s d c
  unfolding buffer_octets
  buffer_loaded = by_loaded (usable_for s d c) 10 octets (λ (t : Table). buffer t s d c) (λ (reason place : ℕ). d) call_accepted.0 call_accepted.1

-- ---- runs

-- What holds of a run: the table loads, the array has the length of one with a state, and the state in it is that of a run under the loaded table.
record Follows (octets : List ℕ) (revision number : ℕ) (lent ws d : List ℕ) (g : Given) : Type 0 where
  loads : (load octets).refusal ≡ 0
  long : length ws ≡ 34
  is : ws ≡ words_of (state_of ws)
  run : Run writer (load octets).table revision number lent (state_of ws) d g

-- The array of a state that a run reaches.
reached_array : (t : Table) (revision number : ℕ) (lent : List ℕ) (s : State) (d : List ℕ) (g : Given) → Run writer t revision number lent s d g
    → Run writer t revision number lent (state_of (words_of s)) d g
reached_array t revision number lent s d g run =
    subst (λ (x : State). Run writer t revision number lent x d g) (sym (run_state t revision number lent s d g run).same) run

-- An accepted start has an array of the right length.
start_long : (octets : List ℕ) (revision number len : ℕ) (ws : List ℕ) → (start_words octets revision number len ws).refusal ≡ 0
    → (length ws ≡ 34) × ((started_octets octets revision number len).refusal ≡ 0)
unfolding start_words
start_long octets revision number len ws e = go (eqb (length ws) 34) refl
  where
    go : (b : Bool) → eqb (length ws) 34 ≡ b → (length ws ≡ 34) × ((started_octets octets revision number len).refusal ≡ 0)
    go true q = (eqb-true (length ws) 34 q, rw q at e)
    go false q = let z : ◌≡◌ {A = ℕ} 10 0 = rw q at e in absurd (omega arith)

-- The array of a state that a run reaches follows.
array_follows : (octets : List ℕ) (revision number : ℕ) (lent ws : List ℕ) (s : State) (d : List ℕ) (g : Given) → (load octets).refusal ≡ 0 → ws ≡ words_of s
    → Run writer (load octets).table revision number lent s d g → Follows octets revision number lent ws d g
array_follows octets revision number lent ws s d g z e run =
    let l = run_state (load octets).table revision number lent s d g run in
    record {
      loads = z;
      long = ap length e ∙ l.long;
      is = e ∙ ap words_of (sym (ap state_of e ∙ l.same));
      run = rw e (reached_array (load octets).table revision number lent s d g run);
    }

-- The array after an accepted call.
next_array : (octets : List ℕ) (revision number : ℕ) (lent before b : List ℕ) (f : Given) → Follows octets revision number lent before b f → (c : Call)
    → (call_words octets before b c).refusal ≡ 0 → (call_words octets before b c).array ≡ words_of (answer (load octets).table (state_of before) b c).state
unfolding call_words array_after
next_array octets revision number lent before b f p c e =
    let s = (answer (load octets).table (state_of before) b c).state in
    rw (eq-eqb (answer_octets octets (state_of before) b c).refusal 0 e)
    (ap (λ (w : Written). used_after before w.state) (call_loaded octets (state_of before) b c e)
    ∙ ap (λ (x : List ℕ). used_after x s) p.is ∙ call_array (load octets).table revision number lent (state_of before) b f p.run c)

follows : (octets : List ℕ) (revision number : ℕ) (lent ws d : List ℕ) (g : Given) → ArrayRun octets revision number lent ws d g
    → Follows octets revision number lent ws d g
unfolding start_words call_words call_buffer
follows octets revision number lent ws d g (start before e) =
    let x = start_long octets revision number (length lent) before e in
    let y = start_accepted octets revision number (length lent) x.1 in
    let q = start_loaded octets revision number (length lent) x.1 in
    let s = (started (load octets).table revision number (length lent)).state in
    let r = runs.start (sym (ap refusal_in q) ∙ x.1) in
    array_follows octets revision number lent ws s lent (message end) y.1 (rw (eq-eqb (length before) 34 x.0, q) refl) r
follows octets revision number lent ws d g (next before b f run c h e) =
    let p = follows octets revision number lent before b f run in
    let t = (load octets).table in
    let s = (answer t (state_of before) b c).state in
    let r = runs.next (state_of before) b f p.run c h (sym (ap refusal_in (call_loaded octets (state_of before) b c e)) ∙ e) in
    array_follows octets revision number lent ws s d g p.loads (next_array octets revision number lent before b f p c e)
    (rw (buffer_loaded octets (state_of before) b c e) r)

-- ---- refused calls

module _ (octets : List ℕ) (s : State) (d : List ℕ) (c : Call) (ne : (answer_octets octets s d c).refusal ≡ 0 → ⊥) where
  octets_unchanged : ((answer_octets octets s d c).state ≡ s) × (buffer_octets octets s d c ≡ d)
  unfolding answer_octets buffer_octets by_octets refused_at
  octets_unchanged = go (usable_for s d c) refl (eqb (load octets).refusal 0) refl
    where
      go : (a : Bool) → usable_for s d c ≡ a → (b : Bool) → eqb (load octets).refusal 0 ≡ b
          → ((answer_octets octets s d c).state ≡ s) × (buffer_octets octets s d c ≡ d)
      go false p b q = (rw p refl, rw p refl)
      go true p false q = (rw (p, q) refl, rw (p, q) refl)
      go true p true q =
          let u = demand_2.refused (load octets).table s d c (rw (p, q) at ne) in
          (rw (p, q) u.same_state, rw (p, q) u.same_buffer)

call_refused : (octets ws d : List ℕ) (c : Call) → ((call_words octets ws d c).refusal ≡ 0 → ⊥)
    → ((call_words octets ws d c).array ≡ ws) × (call_buffer octets ws d c ≡ d)
unfolding call_words call_buffer array_after
call_refused octets ws d c ne =
    let u = octets_unchanged octets (state_of ws) d c ne in
    (rw (ne_eqb (answer_octets octets (state_of ws) d c).refusal 0 ne) refl, u.1)

start_zeros : (octets : List ℕ) (revision number len : ℕ) → ((started_octets octets revision number len).refusal ≡ 0 → ⊥)
    → (started_octets octets revision number len).state ≡ begun 0 0 0
unfolding started_octets by_octets refused_at
start_zeros octets revision number len ne = go (leb len message_limit) refl (eqb (load octets).refusal 0) refl
  where
    go : (a : Bool) → leb len message_limit ≡ a → (b : Bool) → eqb (load octets).refusal 0 ≡ b → (started_octets octets revision number len).state ≡ begun 0 0 0
    go false p b q = rw p refl
    go true p false q = rw (p, q) refl
    go true p true q =
        rw (p, q) (demand_2.zeros.start_refused (load octets).table revision number len (rw (p, q) at ne) ∙ (unfold begun in refl))

start_refused : (octets : List ℕ) (revision number len : ℕ) (ws : List ℕ) → ((start_words octets revision number len ws).refusal ≡ 0 → ⊥)
    → (start_words octets revision number len ws).array ≡ replicate (length ws) 0
unfolding start_words
start_refused octets revision number len ws ne = go (eqb (length ws) 34) refl
  where
    zeros : words_of (begun 0 0 0) ≡ replicate 34 0
    zeros = unfold words_of untagged begun in refl

    go : (b : Bool) → eqb (length ws) 34 ≡ b → (start_words octets revision number len ws).array ≡ replicate (length ws) 0
    go true q =
        rw q (ap words_of (start_zeros octets revision number len (rw q at ne)) ∙ zeros ∙ ap (λ (n : ℕ). replicate n 0) (sym (eqb-true (length ws) 34 q)))
    go false q = rw q refl

-- ---- arrays that hold no state

zeros_unsound : sound (begun 0 0 0) ≡ false
zeros_unsound = unfold sound begun is_revision in refl

zeros_unusable : (d : List ℕ) (c : Call) → usable_for (begun 0 0 0) d c ≡ false
unfolding usable_for usable
zeros_unusable d (put_uint tag v) = rw zeros_unsound (and-false (eqb (length d) (begun 0 0 0).length))
zeros_unusable d (put_int tag z) = rw zeros_unsound (and-false (eqb (length d) (begun 0 0 0).length))
zeros_unusable d (put_octets tag xs) = rw zeros_unsound (and-false (eqb (length d) (begun 0 0 0).length))
zeros_unusable d (open_field tag) = zeros_unsound
zeros_unusable d close_field = rw zeros_unsound (and-false (eqb (length d) (begun 0 0 0).length))

call_no_state : (octets ws d : List ℕ) (c : Call) → holds ws ≡ false → (call_words octets ws d c).refusal ≡ 10
unfolding call_words answer_octets
call_no_state octets ws d c h =
    rw (← unheld ws h refl)
    (ap refusal_in (by_before (usable_for (begun 0 0 0) d c) 10 octets (λ (t : Table). answer t (begun 0 0 0) d c) (refused_at (begun 0 0 0)) (zeros_unusable d c))
    ∙ (unfold refused_at in refl))

call_other : (octets ws d : List ℕ) (c : Call) → (length ws ≡ 34 → ⊥) → (call_words octets ws d c).refusal ≡ 10
call_other octets ws d c ne = call_no_state octets ws d c (other_unheld ws ne)

start_other : (octets : List ℕ) (revision number len : ℕ) (ws : List ℕ) → (length ws ≡ 34 → ⊥) → (start_words octets revision number len ws).refusal ≡ 10
start_other octets revision number len ws ne = ap (λ (x : CallAnswer). x.refusal) (answers.start_other octets revision number len ws ne refl)

-- ---- refusals after a run

start_refusal_lem : (octets : List ℕ) (revision number len : ℕ) (ws : List ℕ) → length ws ≡ 34
    → (start_words octets revision number len ws).refusal ≡ refusal_of_array_start octets revision number len
unfolding start_words started_octets refusal_of_array_start
start_refusal_lem octets revision number len ws e =
    rw (eq-eqb (length ws) 34 e)
    (by_map refusal_in (leb len message_limit) 1 octets (λ (t : Table). started t revision number len) (refused_at (begun 0 0 0))
    (λ (t : Table). refusal_of_start t revision number len) (λ (reason place : ℕ). reason) (λ z. omega arith)
    (λ t. demand_2.starts t revision number len) (λ k place ne. unfold refused_at in refl))

module _ (octets : List ℕ) (revision number : ℕ) (lent ws d : List ℕ) (g : Given) (run : ArrayRun octets revision number lent ws d g) where
  abbrev loaded : Table
  loaded = (load octets).table

  followed : Follows octets revision number lent ws d g
  followed = follows octets revision number lent ws d g run

  after_run : AfterRun check writer loaded revision number lent (state_of ws) d g
  after_run = demand_2.runs loaded revision number lent (state_of ws) d g followed.run

  as_loaded : (c : Call) → answer_octets octets (state_of ws) d c ≡ answer loaded (state_of ws) d c
  unfolding answer_octets
  as_loaded c =
      by_loaded (usable_for (state_of ws) d c) 10 octets (λ (t : Table). answer t (state_of ws) d c) (refused_at (state_of ws))
      (reached_usable loaded revision number lent (state_of ws) d g (run_reached loaded revision number lent (state_of ws) d g followed.run) c) followed.loads

  call_refusal : (c : Call)
      → ((call_words octets ws d c).refusal ≡ refusal_of_call loaded revision number (length lent) g c) × ((call_words octets ws d c).place ≡ 0)
  unfolding call_words
  call_refusal c = (
    ap refusal_in (as_loaded c) ∙ after_run.refusals.calls c,
    ap (λ (w : Written). w.place) (as_loaded c) ∙ demand_2.zeros.call_place loaded (state_of ws) d c,
  )

  module _ (e : (finish_words ws).refusal ≡ 0) where
    reads : Demand2 check loaded revision number lent (finish_words ws).start d g
    unfolding finish_words
    reads = after_run.finished e

    checks : (check_octets octets revision number reads.octets).refusal ≡ 0
    checks =
        let limit = (run_reached loaded revision number lent (state_of ws) d g followed.run).limit in
        let size = reads.stand.to_the_end in
        ap (λ (x : Checked). x.refusal) (check_as_loaded octets reads.octets followed.loads (omega arith) revision number ∙ reads.accepted)

finish_no_state : (ws : List ℕ) → holds ws ≡ false → (finish_words ws).refusal ≡ 10
unfolding finish_words finished finish_refusal or_refuse
finish_no_state ws h = rw (← unheld ws h refl, zeros_unsound) refl

finish_other : (ws : List ℕ) → (length ws ≡ 34 → ⊥) → (finish_words ws).refusal ≡ 10
finish_other ws ne = finish_no_state ws (other_unheld ws ne)

-- ---- the statement

pub array_demand_2 : ArrayDemand2Holds
unfolding finish_words
array_demand_2 =
    record {
      starts = start_refusal_lem;
      calls = call_refusal;
      finish = λ octets revision number lent ws d g run. (after_run octets revision number lent ws d g run).refusals.finish;
      stand = λ octets revision number lent ws d g run. (after_run octets revision number lent ws d g run).stand;
      loads = λ octets revision number lent ws after given run. (followed octets revision number lent ws after given run).loads;
      runs = reads;
      checked = checks;
      refused = call_refused;
      no_state = call_no_state;
      finish_no_state = finish_no_state;
      other_length = call_other;
      start_other = start_other;
      finish_other = finish_other;
      start_refused = start_refused;
    }
