-- The loop invariant of `records`, and the result of `load` by the first repeated pair or the end of the records.
use Prim.Native.Nat.{ℕ, suc, ◌+◌, ◌-◌, ◌≤◌, ◌<◌}
use native.Mathlib.Numerals.{add-one}
use native.Mathlib.Omega.{arith}
use mathlib.Core.Path.{◌≡◌, refl, sym, ap, ◌∙◌}
use mathlib.Core.Bool.{true}
use mathlib.Core.List.{List, ◌++◌}
use lib.ListN.{length, take, drop, get_or, set, replicate}
use lib.Seq.{set_at, take_at, append_snoc}
use borrow.Author.Count.{below_more}
use Rattle.table.specs.Entry.{entry}
use Rattle.reading.specs.declared.Fault.{Fault}
use Rattle.reading.specs.declared.Refusal.TheVariants as Refusals
use Rattle.table.specs.Load.{loaded as loaded_of}
use Rattle.table.specs.Load.{in_range, place_at, well_formed, record_at, word_at, words_before, pair, seen, faulty, refused, accepted, table_of, load}
use Rattle.table.specs.Repeat.{distinct}
use Rattle.table.proofs.Load.{length_words, words_take, words_at, place_more, well_formed_whole, well_formed_range, faulty_form, faulty_seen, faulty_late, load_whole, load_fault}
use Rattle.table_index.specs.internal.Record.{record_of}
use Rattle.table_index.specs.declared.record.Record.{Record}
use Rattle.std.specs.Prelude.{Err, Some, None}
use Rattle.table_index.proofs.RecordLaws.{record_wrong, record_formed, record_word, record_next, record_within}
use Rattle.table_index.specs.internal.Cells.{prefix_length}
use Rattle.table_index.proofs.IndexLaws.{words_within, words_apart, words_stopped}
use Rattle.table_index.specs.internal.Pass.{Passed}

-- ---- the words that are read

-- The loop invariant of `records`: the first n records are well-formed, their words are stored, and `at` is the place after them.
pub record RecordsLoop (s : List ℕ) (n : ℕ) (words : List ℕ) (at : ℕ) : Type 0 where
  pub few : n ≤ 64
  pub formed : (j : ℕ) → j < n → well_formed (record_at s j) ≡ true
  pub filled : words ≡ words_before s n ++ replicate (64 - n) 0
  pub place : at ≡ place_at s n
  pub within : at ≤ length s

pub records_start : (s : List ℕ) → RecordsLoop s 0 (replicate 64 0) 0
unfolding words_before place_at
records_start s = record { few = omega arith; formed = λ j h. absurd (omega arith); filled = refl; place = refl; within = omega arith }

pub records_continue : (s : List ℕ) (n : ℕ) (words : List ℕ) (at : ℕ) (r : Record) → RecordsLoop s n words at → n < 64 → Some r ≡ record_of (drop at s)
    → RecordsLoop s (n + 1) (set words n r.word) (at + r.size)
unfolding words_before
records_continue s n words at r k l e =
    let now : 64 - n ≡ suc (63 - n) = omega arith in
    let then : 64 - suc n ≡ 63 - n = omega arith in
    record {
      few = omega arith;
      formed = below_more (λ (j : ℕ). well_formed (record_at s j) ≡ true) n k.formed (record_formed s n at k.place r e);
      filled =
          rw (k.filled, now, add-one n, then)
          (set_at (words_before s n) 0 (replicate (63 - n) 0) r.word n (length_words s n)
          ∙ rw (record_word s n at k.place r e) (sym (append_snoc (words_before s n) (word_at s n) (replicate (63 - n) 0))));
      place = rw (add-one n) (record_next s n at k.place r e);
      within = record_within s n at k.place r e;
    }

module _ (s : List ℕ) (n : ℕ) (words : List ℕ) (at : ℕ) (k : RecordsLoop s n words at) where
  passes : faulty s n ≡ true → Passed s n words at
  passes e = record { few = k.few; formed = k.formed; filled = k.filled; ended = k.place; stopped = λ h. e }

  pub records_stop : None ≡ record_of (drop at s) → Passed s n words at
  records_stop e = passes (faulty_form s n (record_wrong s n at k.place e))

  pub records_end : 64 ≤ n → Passed s n words at
  records_end h = passes (faulty_late s n h)

-- ---- the whole

-- The result for a table whose fault is at a place.
pub refusal : (f : Fault) {place : ℕ} → f ≡ record { refusal = Refusals.Table; place = place } → {p : ℕ} → place ≡ p → loaded_of (Err f) ≡ refused p
unfolding refused
refusal f e q = rw (e, q) refl

module _ (s words : List ℕ) (n end first : ℕ) (passed : Passed s n words end) (counted : first ≡ prefix_length 1 (take n words) (replicate 128 0)) where
  words_read : take n words ≡ words_before s n
  words_read = rw passed.filled (take_at (words_before s n) (replicate (64 - n) 0) n (length_words s n))

  size : length (words_before s n) ≤ 64
  size = omega (arith, length_words s n, passed.few)

  first_is : first ≡ prefix_length 1 (words_before s n) (replicate 128 0)
  first_is = counted ∙ rw words_read refl

  within : first ≤ n
  within = omega (arith, first_is, words_within 1 (words_before s n) size, length_words s n)

  -- The accepted prefix has no pair twice.
  apart : distinct (words_before s first) ≡ true
  apart = rw (← words_take s first n within, first_is) (words_apart 1 (words_before s n) size)

  all_apart : n ≤ first → distinct (words_before s n) ≡ true
  all_apart h =
      let e : n ≡ first = omega (arith, within) in
      rw e apart

  seen_before : first < n → seen (pair (word_at s first)) (words_before s first) ≡ true
  seen_before h =
      let w = words_at s first n h in
      let range : in_range (entry (get_or (words_before s n) first 0)) ≡ true = rw w (well_formed_range s first (passed.formed first h)) in
      let stop = words_stopped 1 (words_before s n) size (omega (arith, first_is, length_words s n)) (rw (← first_is) range) in
      rw (← w, ← words_take s first n within) (rw (← first_is) at stop)

  -- The first record with a repeated pair begins within the octets.
  pub repeated_within : first < n → place_at s first < length s
  repeated_within h = omega (arith, well_formed_whole s first (passed.formed first h), place_more s first)

  pub repeated : first < n → refused (place_at s first) ≡ load s
  repeated h =
      sym (load_fault s first (omega (arith, passed.few)) (λ j l. passed.formed j (omega arith)) apart (repeated_within h) (faulty_seen s first (seen_before h)))

  pub faulted : n ≤ first → end < length s → refused end ≡ load s
  faulted h l =
      let before : place_at s n < length s = omega (arith, passed.ended) in
      ap refused passed.ended ∙ sym (load_fault s n passed.few passed.formed (all_apart h) before (passed.stopped before))

  pub loaded : n ≤ first → length s ≤ end → record { refusal = 0; place = 0; table = record { count = n; words = words } } ≡ load s
  unfolding accepted table_of
  loaded h l =
      rw (load_whole s n passed.few passed.formed (all_apart h) (omega (arith, passed.ended)), length_words s n, passed.filled) refl
