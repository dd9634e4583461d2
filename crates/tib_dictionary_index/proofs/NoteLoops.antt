-- The loop invariants of noting records and of noting words.
use Prim.Native.Nat.{ℕ, zero, suc, ◌+◌, ◌-◌, ◌*◌, ◌/◌, ◌≤◌, ◌<◌, min}
use native.Mathlib.Omega.{arith}
use mathlib.Core.Path.{◌≡◌, refl, sym, ap, ◌∙◌}
use mathlib.Core.Bool.{Bool, true, false, ◌&&◌, and-false}
use mathlib.Core.List.{List}
use native.Mathlib.Numerals.{add-one}
use lib.ListN.{length, drop, get_or, length-drop, drop_of_length-le}
use lib.Seq.{drop-cons, drop-drop}
use borrow.Author.Tests.{lt-leb}
use Rattle.tib_dictionary.specs.Entry.{entry}
use Rattle.tib_dictionary.specs.Load.{formed, entry_of}
use Rattle.tib_dictionary.specs.internal.Cells.{can_note, with_entry, note_from, note_all}
use Rattle.tib_dictionary.specs.declared.Entry.{Entry}
use Rattle.tib_dictionary.proofs.Formed.{form}

-- ---- records

too_short : (s : List ℕ) (at : ℕ) → at ≤ length s → length s < at + 8 → formed (drop at s) ≡ false
unfolding formed
too_short s at l h = rw (length-drop at s, lt-leb 8 (length s - at) (omega arith)) refl

-- The records from a place on, of which `left` may still be noted, decide what is noted of all.
pub record RecordLoop (most : ℕ) (s cells₀ : List ℕ) (at : ℕ) (cells : List ℕ) : Type 0 where
  pub left : ℕ
  pub reached : at + 8 * left ≡ 8 * most
  pub within : at ≤ length s
  pub end : (note_from most s cells₀).0 ≡ at + (note_from left (drop at s) cells).0
  pub after : (note_from most s cells₀).1 ≡ (note_from left (drop at s) cells).1

pub records_start : (most : ℕ) (s cells : List ℕ) → RecordLoop most s cells 0 cells
records_start most s cells = record { left = most; reached = omega arith; within = omega arith; end = omega arith; after = refl }

module _ (most : ℕ) (s cells₀ : List ℕ) (at : ℕ) (cells : List ℕ) (l : RecordLoop most s cells₀ at cells) where
  abbrev Ended : Type 0
  Ended = (at ≡ (note_from most s cells₀).0) × (cells ≡ (note_from most s cells₀).1)

  -- The record at the place is faulty.
  pub records_stop : at < 8 * most → formed (drop at s) && can_note cells (entry_of (drop at s)) ≡ false → Ended
  unfolding note_from
  records_stop h stop = go l.left l.reached l.end l.after
    where
      go : (left : ℕ) → at + 8 * left ≡ 8 * most → (note_from most s cells₀).0 ≡ at + (note_from left (drop at s) cells).0
          → (note_from most s cells₀).1 ≡ (note_from left (drop at s) cells).1 → Ended
      go zero r e a = absurd (omega arith)
      go (suc n) r e a = (sym (e ∙ rw stop (omega arith)), sym (a ∙ rw stop refl))

  pub not_formed : at < 8 * most → formed (drop at s) ≡ false → Ended
  not_formed h e = records_stop h (rw e refl)

  -- An entry that cannot be noted changes no cell.
  pub not_noted : at < 8 * most → (e : Entry) → e ≡ entry_of (drop at s) → can_note cells e ≡ false → (cells' : List ℕ) → cells' ≡ with_entry e cells
      → (at ≡ (note_from most s cells₀).0) × (cells' ≡ (note_from most s cells₀).1)
  unfolding with_entry
  not_noted h e is n cells' c =
      let same : cells' ≡ cells = c ∙ rw n refl in
      let k = records_stop h (rw (← is, n) (and-false (formed (drop at s)))) in
      (k.0, same ∙ k.1)

  -- It is noted.
  pub records_next : at < 8 * most → formed (drop at s) ≡ true → (e : Entry) → e ≡ entry_of (drop at s) → can_note cells e ≡ true
      → (cells' : List ℕ) → cells' ≡ with_entry e cells → RecordLoop most s cells₀ (at + 8) cells'
  unfolding note_from
  records_next h f e is n cells' c = go l.left l.reached l.end l.after
    where
      goes : formed (drop at s) && can_note cells (entry_of (drop at s)) ≡ true
      goes = rw (f, ← is, n) refl

      go : (left : ℕ) → at + 8 * left ≡ 8 * most → (note_from most s cells₀).0 ≡ at + (note_from left (drop at s) cells).0
          → (note_from most s cells₀).1 ≡ (note_from left (drop at s) cells).1 → RecordLoop most s cells₀ (at + 8) cells'
      go zero r q a = absurd (omega arith)
      go (suc n) r q a =
          record {
            left = n;
            reached = omega arith;
            within = omega (arith, (form (drop at s) f).whole, length-drop at s, l.within);
            end = q ∙ rw (goes, c, is, drop-drop 8 at s) (omega arith);
            after = a ∙ rw (goes, c, is, drop-drop 8 at s) refl;
          }

  -- No more records may be noted, or no whole record is left.
  pub records_end : at ≡ 8 * min (length s / 8) most → Ended
  unfolding note_from
  records_end h = go l.left l.reached l.end l.after
    where
      go : (left : ℕ) → at + 8 * left ≡ 8 * most → (note_from most s cells₀).0 ≡ at + (note_from left (drop at s) cells).0
          → (note_from most s cells₀).1 ≡ (note_from left (drop at s) cells).1 → Ended
      go zero r e a = (sym (e ∙ omega arith), sym a)
      go (suc n) r e a = not_formed (omega arith) (too_short s at l.within (omega arith))

-- ---- words

-- The words from i on decide what is noted of all.
abbrev pub WordLoop : (words : List ℕ) (cells₀ : List ℕ) (i : ℕ) (cells : List ℕ) → Type 0
WordLoop words cells₀ i cells = note_all words cells₀ ≡ note_all (drop i words) cells

module _ (words cells₀ : List ℕ) (i : ℕ) (cells : List ℕ) (l : WordLoop words cells₀ i cells) where
  abbrev Told : Bool → List ℕ → Type 0
  Told b after = (b ≡ (note_all words cells₀).0) × (after ≡ (note_all words cells₀).1)

  told : (b : Bool) → note_all (drop i words) cells ≡ (b, cells) → Told b cells
  told b e =
      let all : note_all words cells₀ ≡ (b, cells) = l ∙ e in
      (sym (ap (λ (p : Bool × List ℕ). p.0) all), sym (ap (λ (p : Bool × List ℕ). p.1) all))

  pub words_end : length words ≤ i → Told true cells
  unfolding note_all
  words_end h = told true (rw (drop_of_length-le words {i = i} h) refl)

  module _ (more : i < length words) (e : Entry) (is : e ≡ entry (get_or words i 0)) where
    pub words_stop : can_note cells e ≡ false → (cells' : List ℕ) → cells' ≡ with_entry e cells → Told false cells'
    unfolding note_all with_entry
    words_stop h cells' c =
        let same : cells' ≡ cells = c ∙ rw h refl in
        let k = told false (rw (drop-cons words i 0 more, ← is, h) refl) in
        (k.0, same ∙ k.1)

    pub words_next : can_note cells e ≡ true → (cells' : List ℕ) → cells' ≡ with_entry e cells → WordLoop words cells₀ (i + 1) cells'
    unfolding note_all
    words_next h cells' c = l ∙ rw (drop-cons words i 0 more, ← is, h, c, add-one i) refl
