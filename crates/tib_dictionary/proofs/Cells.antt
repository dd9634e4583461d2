-- Noting a dictionary's entries in cleared cells decides what the loader does, and afterwards the cells are those of its entries.
use Prim.Native.Nat.{ℕ, zero, suc, ◌+◌, ◌*◌, ◌/◌, ◌≤◌, ◌<◌}
use native.Mathlib.Omega.{arith}
use mathlib.Core.Path.{◌≡◌, refl, sym, ap, subst, ◌∙◌}
use mathlib.Core.Bool.{Bool, true, false, cond, not, ◌&&◌, ◌||◌, and-true, and-false, false≢true}
use mathlib.Core.List.{List, [], ◌∷◌, ◌++◌, map, append-nil, append_assoc}
use mathlib.Core.Option.{none, some}
use lib.ListN.{length, take, drop, get_or, set, replicate, length-append, length-drop, length-set, length-replicate, get_or-replicate}
use lib.Seq.{get_or-set_same, get_or-set_other}
use lib.Dec.{eqb, leb, ltb}
use borrow.Author.Tests.{eqb-true, eqb-false, ne_eqb, le-ltb, lt-ltb, not-true}
use Rattle.octets.proofs.Bools.{and_left, and_right, or_left, or_right}
use Rattle.reading.specs.Reading.{accepted, refused, on_accepted}
use Rattle.reading.specs.Refusals as refusals
use Rattle.table.specs.Valid.{all_zero}
use Rattle.tib_dictionary.specs.Entry.{in_range, has, find, entry, entries}
use Rattle.tib_dictionary.specs.Load.{formed, entry_of, continues, load_from, loading}
use Rattle.tib_dictionary.specs.Valid.{valid}
use Rattle.tib_dictionary.specs.internal.Cells.{cell_for, cell_of, CellsOf, can_note, with_entry, note_from, note_all, all_noted, cells_after}
use Rattle.tib_dictionary.specs.internal.Search.{records_of}
use Rattle.tib_dictionary.specs.declared.Entry.{Entry}
use Rattle.tib_dictionary.specs.declared.Dictionary.{Dictionary}
use Rattle.tib_dictionary.proofs.Ranges.{bounds}
use Rattle.tib_dictionary.proofs.Formed.{form}
use Rattle.tib_dictionary.proofs.LoadSteps.{load_end, load_fault, load_over}
use Rattle.tib_dictionary.proofs.GoodEntries.{good_after, good_all}

-- ---- one entry

-- A cell is 0 exactly if no entry has its fid.
free : (es : List Entry) (fid : ℕ) → eqb (cell_of (find es fid)) 0 ≡ not (has es fid)
unfolding cell_of find has cell_for
free [] fid = refl
free (e ∷ es) fid = go (eqb e.fid fid) (free es fid)
  where
    go : (t : Bool) → eqb (cell_of (find es fid)) 0 ≡ not (has es fid) → eqb (cell_of (cond t (some e) (find es fid))) 0 ≡ not (t || has es fid)
    go true h = ne_eqb (1 + (e.size + 1) / 2) 0 (λ z. absurd (omega arith))
    go false h = h

find_snoc : (es : List Entry) (e : Entry) (fid : ℕ) → has es e.fid ≡ false
    → cell_of (find (es ++ (e ∷ [])) fid) ≡ cond (eqb e.fid fid) (cell_for e) (cell_of (find es fid))
unfolding find cell_of has
find_snoc [] e fid h = go (eqb e.fid fid)
  where
    go : (t : Bool) → cell_of (cond t (some e) none) ≡ cond t (cell_for e) 0
    go true = refl
    go false = refl
find_snoc (x ∷ es) e fid h =
    go (eqb x.fid fid) refl (eqb e.fid fid) refl (find_snoc es e fid (or_right (eqb x.fid e.fid) (has es e.fid) h))
  where
    go : (t : Bool) → eqb x.fid fid ≡ t → (u : Bool) → eqb e.fid fid ≡ u
        → cell_of (find (es ++ (e ∷ [])) fid) ≡ cond (eqb e.fid fid) (cell_for e) (cell_of (find es fid))
        → cell_of (cond t (some x) (find (es ++ (e ∷ [])) fid)) ≡ cond u (cell_for e) (cell_of (cond t (some x) (find es fid)))
    go true p true q later =
        absurd (eqb-false x.fid e.fid (or_left (eqb x.fid e.fid) (has es e.fid) h) (eqb-true x.fid fid p ∙ sym (eqb-true e.fid fid q)))
    go true p false q later = refl
    go false p u q later = rw (← q) later

-- The cells of entries, one for each fid.
pub record Noting (es : List Entry) (cells : List ℕ) : Type 0 where
  pub size : length cells ≡ 16384
  pub of : CellsOf es cells

cleared : (n : ℕ) (fid : ℕ) → fid < n → get_or (replicate n 0) fid 0 ≡ cell_of (find [] fid)
unfolding find cell_of
cleared n fid h = get_or-replicate n fid 0 0 h

pub nothing : Noting [] (replicate 16384 0)
unfolding CellsOf
nothing = record { size = length-replicate {A = ℕ} 16384 0; of = cleared 16384 }

module _ (es : List Entry) (cells : List ℕ) (k : Noting es cells) (e : Entry) where
  -- An entry can be noted exactly if it is in range and its fid is new.
  can_note_is : can_note cells e ≡ in_range e && not (has es e.fid)
  unfolding can_note CellsOf
  can_note_is = go (in_range e) refl
    where
      go : (t : Bool) → in_range e ≡ t → t && eqb (get_or cells e.fid 0) 0 ≡ t && not (has es e.fid)
      go true h =
          let b = (bounds e h).fid in
          ap (λ (c : ℕ). eqb c 0) (k.of e.fid (omega arith)) ∙ free es e.fid
      go false h = refl

  -- Then the cells are those of one entry more.
  noting_more : can_note cells e ≡ true → Noting (es ++ (e ∷ [])) (with_entry e cells)
  unfolding CellsOf with_entry
  noting_more h = rw h (record { size = length-set cells e.fid (cell_for e) ∙ k.size; of = λ fid l. go fid l (eqb e.fid fid) refl })
    where
      good : in_range e && not (has es e.fid) ≡ true
      good = sym can_note_is ∙ h

      new : has es e.fid ≡ false
      new = not-true (has es e.fid) (and_right (in_range e) (not (has es e.fid)) good)

      inside : e.fid < length cells
      inside =
          let b = (bounds e (and_left (in_range e) (not (has es e.fid)) good)).fid in
          let l = k.size in
          omega arith

      go : (fid : ℕ) → fid < 16384 → (t : Bool) → eqb e.fid fid ≡ t → get_or (set cells e.fid (cell_for e)) fid 0 ≡ cell_of (find (es ++ (e ∷ [])) fid)
      go fid l true q =
          let same : e.fid ≡ fid = eqb-true e.fid fid q in
          rw (find_snoc es e fid new, q, ← same) (get_or-set_same cells e.fid (cell_for e) 0 inside)
      go fid l false q =
          rw (find_snoc es e fid new, q) (get_or-set_other cells e.fid fid (cell_for e) 0 (λ z. eqb-false e.fid fid q (sym z)) ∙ k.of fid l)

-- ---- records

-- The loader accepts octets, and cells are those of their entries and of those before.
pub record Loads (before : List Entry) (fuel at : ℕ) (s cells : List ℕ) : Type 0 where
  pub es : List Entry
  pub loads : load_from before fuel at s ≡ accepted es
  pub noting : Noting (before ++ es) cells
  pub read : records_of (length s / 8) s ≡ es

-- The loader does what noting up to n records finds: a faulty record at an offset, or only good ones.
record Decided (before : List Entry) (fuel at : ℕ) (s : List ℕ) (end : ℕ) (after : List ℕ) : Type 0 where
  faulty : end < length s → load_from before fuel at s ≡ refused refusals.table (at + end)
  good : length s ≤ end → Loads before fuel at s after

-- No record is noted: the octets end, or the first record is faulty.
stopped : (before : List Entry) (fuel at : ℕ) (s cells : List ℕ) → Noting before cells → (1 ≤ length s → formed s && continues before (entry_of s) ≡ false)
    → Decided before (suc fuel) at s 0 cells
unfolding records_of
stopped before fuel at s cells k wrong =
    record {
      faulty = λ l. load_fault before fuel at s l (wrong l) ∙ ap (refused refusals.table) (omega arith);
      good = λ l.
          let none : length s ≡ 0 = omega arith in
          record { es = []; loads = load_end before fuel at s none; noting = subst (λ (es : List Entry). Noting es cells) (sym (append-nil before)) k; read = rw none refl };
    }

-- One record is noted, and then the others.
module _ (before : List Entry) (fuel at : ℕ) (s : List ℕ) (end : ℕ) (after : List ℕ) where
  abbrev e : Entry
  e = entry_of s

  went_on : formed s && continues before e ≡ true → Decided (before ++ (e ∷ [])) fuel (at + 8) (drop 8 s) end after → Decided before (suc fuel) at s (8 + end) after
  unfolding on_accepted records_of
  went_on t d =
      let whole = (form s (and_left (formed s) (continues before e) t)).whole in
      let l = length-drop 8 s in
      let n : length s / 8 ≡ suc (length (drop 8 s) / 8) = omega arith in
      record {
        faulty = λ h. load_over before fuel at s t ∙ rw (d.faulty (omega arith)) (ap (refused refusals.table) (omega arith));
        good = λ h.
            let later = d.good (omega arith) in
            record {
              es = e ∷ later.es;
              loads = load_over before fuel at s t ∙ rw later.loads refl;
              noting = subst (λ (es : List Entry). Noting es after) (append_assoc before (e ∷ []) later.es) later.noting;
              read = ap (λ (m : ℕ). records_of m s) n ∙ ap (λ (es : List Entry). e ∷ es) later.read;
            };
      }

decided : (n : ℕ) (before : List Entry) (fuel at : ℕ) (s cells : List ℕ) → Noting before cells → length before + n ≡ 512 → length s < fuel
    → Decided before fuel at s (note_from n s cells).0 (note_from n s cells).1
unfolding note_from continues
decided n before zero at s cells k few h = absurd (omega arith)
decided zero before (suc fuel) at s cells k few h = stopped before fuel at s cells k (λ l. full)
  where
    full : formed s && (in_range (entry_of s) && not (has before (entry_of s).fid) && ltb (length before) 512) ≡ false
    full = rw (le-ltb (length before) 512 (omega arith), and-false (in_range (entry_of s) && not (has before (entry_of s).fid))) (and-false (formed s))
decided (suc n) before (suc fuel) at s cells k few h =
    go (formed s) refl (can_note cells (entry_of s)) refl (decided n (before ++ (entry_of s ∷ [])) fuel (at + 8) (drop 8 s) (with_entry (entry_of s) cells))
  where
    e : Entry
    e = entry_of s

    later : ℕ × List ℕ
    later = note_from n (drop 8 s) (with_entry e cells)

    same : continues before e ≡ can_note cells e
    same = rw (can_note_is before cells k e, lt-ltb (length before) 512 (omega arith)) (and-true (in_range e && not (has before e.fid)))

    go : (f : Bool) → formed s ≡ f → (t : Bool) → can_note cells e ≡ t
        → (Noting (before ++ (e ∷ [])) (with_entry e cells) → length (before ++ (e ∷ [])) + n ≡ 512 → length (drop 8 s) < fuel → Decided (before ++ (e ∷ [])) fuel (at + 8) (drop 8 s) later.0 later.1)
        → Decided before (suc fuel) at s (cond {A = ℕ × List ℕ} (f && t) (8 + later.0, later.1) (0, cells)).0 (cond {A = ℕ × List ℕ} (f && t) (8 + later.0, later.1) (0, cells)).1
    go true p true q rest =
        let l = length-drop 8 s in
        let m = length-append before (e ∷ []) in
        let w = (form s p).whole in
        went_on before fuel at s later.0 later.1 (rw (p, same, q) refl) (rest (noting_more before cells k e q) (omega arith) (omega arith))
    go true p false q rest = stopped before fuel at s cells k (λ l. rw (p, same, q) refl)
    go false p t q rest = stopped before fuel at s cells k (λ l. rw p refl)

module _ (s : List ℕ) where
  abbrev end : ℕ
  end = (note_from 512 s (replicate 16384 0)).0

  all_decided : Decided [] (suc (length s)) 0 s end (note_from 512 s (replicate 16384 0)).1
  all_decided = decided 512 [] (suc (length s)) 0 s (replicate 16384 0) nothing (omega arith) (omega arith)

  -- Where noting stops before the end of the octets, the loader refuses them at that place.
  pub note_refuses : (note_from 512 s (replicate 16384 0)).0 < length s → loading s ≡ refused refusals.table (note_from 512 s (replicate 16384 0)).0
  unfolding loading
  note_refuses h = all_decided.faulty h ∙ ap (refused refusals.table) (omega arith)

  -- Where it reaches the end, the loader accepts them, and the cells are those of the entries.
  pub record NotedRecords (cells : List ℕ) : Type 0 where
    pub es : List Entry
    pub loads : loading s ≡ accepted es
    pub cells_of : CellsOf es cells
    pub read : records_of (length s / 8) s ≡ es

  pub note_accepts : length s ≤ (note_from 512 s (replicate 16384 0)).0 → NotedRecords (note_from 512 s (replicate 16384 0)).1
  unfolding loading
  note_accepts h = let k = all_decided.good h in record { es = k.es; loads = k.loads; cells_of = k.noting.of; read = k.read }

-- At most n records of eight octets are noted.
pub note_most : (n : ℕ) (s cells : List ℕ) → (note_from n s cells).0 ≤ 8 * n
unfolding note_from
note_most zero s cells = omega arith
note_most (suc n) s cells = go (formed s && can_note cells (entry_of s)) (note_most n (drop 8 s) (with_entry (entry_of s) cells))
  where
    later : ℕ × List ℕ
    later = note_from n (drop 8 s) (with_entry (entry_of s) cells)

    go : (t : Bool) → later.0 ≤ 8 * n → (cond {A = ℕ × List ℕ} t (8 + later.0, later.1) (0, cells)).0 ≤ 8 * suc n
    go true h = omega arith
    go false h = omega arith

-- ---- words

-- All words are noted exactly if their entries are good, and then the cells are those of the entries.
record AllNoted (before : List Entry) (ws : List ℕ) (all : Bool) (after : List ℕ) : Type 0 where
  good : all ≡ good_after before (map entry ws)
  noting : all ≡ true → Noting (before ++ map entry ws) after

all_noted_lem : (ws : List ℕ) (before : List Entry) (cells : List ℕ) → Noting before cells → AllNoted before ws (note_all ws cells).0 (note_all ws cells).1
unfolding note_all good_after
all_noted_lem [] before cells k = record { good = refl; noting = λ h. subst (λ (es : List Entry). Noting es cells) (sym (append-nil before)) k }
all_noted_lem (w ∷ ws) before cells k = go (can_note cells (entry w)) refl (all_noted_lem ws (before ++ (entry w ∷ [])) (with_entry (entry w) cells))
  where
    e : Entry
    e = entry w

    later : Bool × List ℕ
    later = note_all ws (with_entry e cells)

    go : (t : Bool) → can_note cells e ≡ t → (Noting (before ++ (e ∷ [])) (with_entry e cells) → AllNoted (before ++ (e ∷ [])) ws later.0 later.1)
        → AllNoted before (w ∷ ws) (cond t later (false, cells)).0 (cond t later (false, cells)).1
    go true q rest =
        let r = rest (noting_more before cells k e q) in
        record {
          good = rw (← can_note_is before cells k e, q) r.good;
          noting = λ h. subst (λ (es : List Entry). Noting es later.1) (append_assoc before (e ∷ []) (map entry ws)) (r.noting h);
        }
    go false q rest = record { good = rw (← can_note_is before cells k e, q) refl; noting = λ h. absurd (false≢true h) }

module _ (d : Dictionary) where
  abbrev used : List ℕ
  used = take d.count d.words

  used_noted : AllNoted [] used (note_all used (replicate 16384 0)).0 (note_all used (replicate 16384 0)).1
  used_noted = all_noted_lem used [] (replicate 16384 0) nothing

  -- A dictionary value is valid exactly if all its words are noted in cleared cells and the unused ones are 0.
  pub words_valid : all_noted d.words d.count (replicate 16384 0) ≡ valid d
  unfolding all_noted valid entries
  words_valid = rw (used_noted.good, good_all (map entry used)) refl

  -- Then the cells are those of its entries.
  pub words_noted : all_noted d.words d.count (replicate 16384 0) ≡ true → CellsOf (entries d) (cells_after d.words d.count (replicate 16384 0))
  unfolding all_noted cells_after entries
  words_noted h =
      let all = (note_all used (replicate 16384 0)).0 in
      let front = and_left (leb d.count 512 && all) (all_zero (drop d.count d.words)) h in
      rw (and_left (leb d.count 512) all front) (used_noted.noting (and_right (leb d.count 512) all front)).of
