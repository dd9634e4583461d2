-- The table values that `valid` accepts are those that the loader can return.
use Prim.Native.Nat.{ℕ, zero, suc, ◌+◌, ◌-◌, ◌≤◌, ◌<◌}
use native.Mathlib.Omega.{arith}
use mathlib.Core.Path.{◌≡◌, refl, ap, subst, ◌∙◌}
use mathlib.Core.Logic.{◌↔◌}
use mathlib.Core.Bool.{Bool, true, false, cond, not, ◌||◌}
use mathlib.Core.List.{List, [], ◌∷◌, ◌++◌}
use lib.ListN.{length, take, drop, get_or, replicate, take-append-drop, length-drop}
use lib.Seq.{take_at, drop_at, length-take-le}
use lib.Dec.{eqb, leb}
use borrow.Author.Tests.{eqb-true, le-leb, leb-true, not-false}
use Rattle.table.specs.Entry.{entry}
use Rattle.table.specs.Load.{Loaded, in_range, place_at, record_at, word_at, well_formed, words_before, pair, seen, faulty, table_of, accepted, refused, load_from, load, Loadable}
use Rattle.table.specs.Repeat.{distinct}
use Rattle.table.specs.Valid.{all_in_range, all_zero, valid}
use Rattle.table.specs.declared.Table.{Table}
use Rattle.octets.proofs.Bools.{and_left, and_right, and_four, and_both, or_left, or_right}
use Rattle.table.proofs.Repeat.{distinct_snoc}
use Rattle.table.proofs.Load.{length_words, well_formed_range}
use Rattle.table.proofs.WordRecords.{load_records, records_of_lem}

-- ---- a table that is loaded is valid

pub range_snoc : (ws : List ℕ) (w : ℕ) → all_in_range ws ≡ true → in_range (entry w) ≡ true → all_in_range (ws ++ (w ∷ [])) ≡ true
unfolding all_in_range
range_snoc [] w e h = and_both (in_range (entry w)) true h refl
range_snoc (x ∷ ws) w e h =
    let a = in_range (entry x) in
    let b = all_in_range ws in
    and_both a (all_in_range (ws ++ (w ∷ []))) (and_left a b e) (range_snoc ws w (and_right a b e) h)

pub zeros : (n : ℕ) → all_zero (replicate n 0) ≡ true
unfolding all_zero
zeros zero = refl
zeros (suc n) = zeros n

-- The table of few words that are in range, with no pair twice.
valid_table : (ws : List ℕ) → length ws ≤ 64 → all_in_range ws ≡ true → distinct ws ≡ true → valid (table_of ws) ≡ true
unfolding valid table_of
valid_table ws h r d =
    rw (
      take_at ws (replicate (64 - length ws) 0) (length ws) refl,
      drop_at ws (replicate (64 - length ws) 0) (length ws) refl,
      le-leb (length ws) 64 h,
      r,
      d,
    )
    (zeros (64 - length ws))

-- A record that is not faulty.
pub well_formed_of : (s : List ℕ) (i : ℕ) → faulty s i ≡ false → well_formed (record_at s i) ≡ true
unfolding faulty
well_formed_of s i e =
    let a = not (well_formed (record_at s i)) in
    let b = seen (pair (word_at s i)) (words_before s i) in
    not-false (well_formed (record_at s i)) (or_left a b (or_left (a || b) (leb 64 i) e))

pub unseen_of : (s : List ℕ) (i : ℕ) → faulty s i ≡ false → seen (pair (word_at s i)) (words_before s i) ≡ false
unfolding faulty
unseen_of s i e =
    let a = not (well_formed (record_at s i)) in
    let b = seen (pair (word_at s i)) (words_before s i) in
    or_right a b (or_left (a || b) (leb 64 i) e)

refused_not : (place : ℕ) (t : Table) → refused place ≡ record { refusal = 0; place = 0; table = t } → ⊥
unfolding refused
refused_not place t e = let z : ◌≡◌ {A = ℕ} 2 0 = ap (λ (l : Loaded). l.refusal) e in omega arith

accepted_table : (ws : List ℕ) (t : Table) → accepted ws ≡ record { refusal = 0; place = 0; table = t } → table_of ws ≡ t
unfolding accepted
accepted_table ws t e = ap (λ (l : Loaded). l.table) e

loaded_valid : (s : List ℕ) (t : Table) (fuel i : ℕ) → i + fuel ≤ 65 → all_in_range (words_before s i) ≡ true → distinct (words_before s i) ≡ true
    → load_from fuel i s ≡ record { refusal = 0; place = 0; table = t } → valid t ≡ true
unfolding load_from words_before
loaded_valid s t zero i few r d e = absurd (refused_not (place_at s i) t e)
loaded_valid s t (suc fuel) i few r d e = go (leb (length s) (place_at s i)) (faulty s i) refl e (loaded_valid s t fuel (suc i) (omega arith))
  where
    go : (a b : Bool) → faulty s i ≡ b
        → cond a (accepted (words_before s i)) (cond b (refused (place_at s i)) (load_from fuel (suc i) s)) ≡ record { refusal = 0; place = 0; table = t }
        → (all_in_range (words_before s (suc i)) ≡ true → distinct (words_before s (suc i)) ≡ true → load_from fuel (suc i) s ≡ record { refusal = 0; place = 0; table = t } → valid t ≡ true)
        → valid t ≡ true
    go true b p q on =
        let same : table_of (words_before s i) ≡ t = accepted_table (words_before s i) t q in
        subst (λ (x : Table). valid x ≡ true) same (valid_table (words_before s i) (omega (arith, length_words s i)) r d)
    go false true p q on = absurd (refused_not (place_at s i) t q)
    go false false p q on =
        on (range_snoc (words_before s i) (word_at s i) r (well_formed_range s i (well_formed_of s i p)))
        (distinct_snoc (words_before s i) (word_at s i) d (unseen_of s i p)) q

-- ---- a table that is valid can be loaded, from the records of its words with their marks

pub range_at : (ws : List ℕ) (i : ℕ) → all_in_range ws ≡ true → i < length ws → in_range (entry (get_or ws i 0)) ≡ true
unfolding all_in_range
range_at [] i e h = absurd (omega arith)
range_at (w ∷ ws) zero e h = and_left (in_range (entry w)) (all_in_range ws) e
range_at (w ∷ ws) (suc i) e h = range_at ws i (and_right (in_range (entry w)) (all_in_range ws) e) (omega arith)

pub zeros_are : (l : List ℕ) → all_zero l ≡ true → l ≡ replicate (length l) 0
unfolding all_zero
zeros_are [] e = refl
zeros_are (x ∷ l) e =
    let h : x ≡ 0 = eqb-true x 0 (and_left (eqb x 0) (all_zero l) e) in
    rw (h, ← zeros_are l (and_right (eqb x 0) (all_zero l) e)) refl

-- ---- the law

-- The conditions of a valid table, one by one.
pub record Parts (t : Table) : Type 0 where
  pub few : t.count ≤ 64
  pub range : all_in_range (take t.count t.words) ≡ true
  pub apart : distinct (take t.count t.words) ≡ true
  pub unused : all_zero (drop t.count t.words) ≡ true

pub parts : (t : Table) → valid t ≡ true → Parts t
unfolding valid
parts t v =
    let used = take t.count t.words in
    let h = and_four (leb t.count 64) (all_in_range used) (distinct used) (all_zero (drop t.count t.words)) v in
    record { few = leb-true t.count 64 h.0; range = h.1; apart = h.2; unused = h.3 }

module _ (t : Table) where
  pub loadable_valid : Loadable t → valid t ≡ true
  unfolding Loadable load words_before all_in_range distinct
  loadable_valid l = loaded_valid l.0 t 65 0 (omega arith) refl refl l.2

  pub valid_loadable : length t.words ≡ 64 → valid t ≡ true → Loadable t
  unfolding Loadable accepted table_of
  valid_loadable size v =
      let n = t.count in
      let used = take n t.words in
      let rest = drop n t.words in
      let p = parts t v in
      let few : n ≤ 64 = p.few in
      let len : length used ≡ n = length-take-le n t.words (omega arith) in
      let rest_length : length rest ≡ 64 - n = rw (length-drop n t.words, size) refl in
      let filled : used ++ replicate (64 - n) 0 ≡ t.words =
      rw (← rest_length, ← zeros_are rest p.unused) (take-append-drop n t.words) in
      let r = records_of_lem used p.range in
      (r.0, r.1, load_records r.0 used r.2 (omega arith) p.range p.apart ∙ rw (len, filled) refl)

  -- A table value is valid exactly if the loader can return it. Every table value of the code has 64 words, so that premise limits nothing.
  pub valid_exactly : length t.words ≡ 64 → (valid t ≡ true) ↔ Loadable t
  valid_exactly size = (valid_loadable size, loadable_valid)
