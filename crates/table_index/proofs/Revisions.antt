-- Words under a revision: only their marks may change.
use Prim.Native.Nat.{ℕ, zero, suc, ◌*◌, ◌/◌, ◌%◌}
use native.Mathlib.Omega.{arith}
use mathlib.Core.Path.{◌≡◌, refl, sym, ap, ◌∙◌}
use mathlib.Core.Bool.{Bool, true, false, cond, ◌&&◌, and-false}
use mathlib.Core.List.{List, [], ◌∷◌, map, map-append}
use lib.Dec.{eqb, leb, ltb}
use Rattle.table.specs.Entry.{Entry, entry, meaning, find, marked_single}
use Rattle.table.specs.Load.{in_range, pair, seen}
use Rattle.table.specs.Repeat.{distinct}
use Rattle.table.specs.Schema.{schema_of}
use Rattle.octets.proofs.Bools.{and_left}
use Rattle.table.proofs.Schemas.{same_schema}
use Rattle.table_index.specs.internal.Cells.{word_under}
use Rattle.table_index.proofs.AcceptedPrefix.{words_of}

module _ (revision : ℕ) where
  abbrev kept : Bool
  kept = eqb revision 2

  -- ---- a word

  -- The entry with its mark, or with the mark 0.
  abbrev marked : Bool → Entry → Entry
  marked b e = record { number = e.number; tag = e.tag; kind = e.kind; inner = e.inner; mark = cond b e.mark 0 }

  entry_under : (w : ℕ) → entry (word_under revision w) ≡ marked kept (entry w)
  unfolding entry word_under
  entry_under w = go kept
    where
      go : (b : Bool) → entry (cond b w (w / 256 * 256)) ≡ marked b (entry w)
      go true = refl
      go false =
          let number : w / 256 * 256 / 1099511627776 ≡ w / 1099511627776 = omega arith in
          let tag : w / 256 * 256 / 16777216 % 65536 ≡ w / 16777216 % 65536 = omega arith in
          let kind : w / 256 * 256 / 65536 % 256 ≡ w / 65536 % 256 = omega arith in
          let inner : w / 256 * 256 / 256 % 256 ≡ w / 256 % 256 = omega arith in
          let mark : w / 256 * 256 % 256 ≡ 0 = omega arith in
          rw (number, tag, kind, inner, mark) refl

  -- Its entry is in range where the word's is.
  pub range_under : (w : ℕ) → in_range (entry w) ≡ true → in_range (entry (word_under revision w)) ≡ true
  unfolding in_range
  range_under w h = ap in_range (entry_under w) ∙ go kept
    where
      go : (b : Bool) → in_range (marked b (entry w)) ≡ true
      go true = h
      go false =
          let e = entry w in
          let unmarked = ltb e.number 16 && leb 1 e.kind && leb e.kind 5 && cond (eqb e.kind 5) (ltb e.inner 16) (eqb e.inner 0) in
          rw (and_left unmarked (ltb e.mark 2) h) refl

  -- The same by a test of the word that was made before.
  pub range_read : (w : ℕ) {x : ℕ} {tested : Bool} → x ≡ word_under revision w → tested ≡ in_range (entry w) → tested ≡ true → in_range (entry x) ≡ true
  range_read w e f h = rw e (range_under w (sym f ∙ h))

  -- It has the same pair,
  pub pair_under : (w : ℕ) → pair (word_under revision w) ≡ pair w
  unfolding pair word_under
  pair_under w = go kept
    where
      go : (b : Bool) → cond b w (w / 256 * 256) / 16777216 ≡ w / 16777216
      go true = refl
      go false = omega arith

  -- ---- words

  -- so the same pairs are seen, and repeated.
  pub seen_under : (p : ℕ) (ws : List ℕ) → seen p (map (word_under revision) ws) ≡ seen p ws
  unfolding seen
  seen_under p [] = refl
  seen_under p (w ∷ ws) = rw (pair_under w, seen_under p ws) refl

  pub distinct_under : (ws : List ℕ) → distinct (map (word_under revision) ws) ≡ distinct ws
  unfolding distinct
  distinct_under [] = refl
  distinct_under (w ∷ ws) = rw (pair_under w, seen_under (pair w) ws, distinct_under ws) refl

  -- The first k words under a revision.
  pub words_under : (word : ℕ → ℕ) (k : ℕ) → words_of (λ i. word_under revision (word i)) k ≡ map (word_under revision) (words_of word k)
  unfolding words_of
  words_under word zero = refl
  words_under word (suc k) = rw (words_under word k) (sym (map-append (word_under revision) (words_of word k) (word k ∷ [])))

  -- The kinds are the same,
  find_under : (ws : List ℕ) (n t : ℕ) → find (map entry (map (word_under revision) ws)) n t ≡ find (map entry ws) n t
  unfolding find meaning
  find_under [] n t = refl
  find_under (w ∷ ws) n t = rw (entry_under w, find_under ws n t) refl

  -- and a tag is single only under revision 2.
  single_under : (ws : List ℕ) (n t : ℕ) → marked_single (map entry (map (word_under revision) ws)) n t ≡ kept && marked_single (map entry ws) n t
  unfolding marked_single
  single_under [] n t = sym (and-false kept)
  single_under (w ∷ ws) n t =
      rw (entry_under w, single_under ws n t) (go kept (eqb (entry w).number n && eqb (entry w).tag t) (marked_single (map entry ws) n t))
    where
      go : (b c d : Bool) → cond c (eqb (cond b (entry w).mark 0) 1) (b && d) ≡ b && cond c (eqb (entry w).mark 1) d
      go true c d = refl
      go false true d = refl
      go false false d = refl

  -- So the words under a revision, marks and all, have the schema of the words under that revision.
  pub schema_under : (ws : List ℕ) → schema_of 2 (map entry (map (word_under revision) ws)) ≡ schema_of revision (map entry ws)
  unfolding schema_of
  schema_under ws =
      same_schema (schema_of 2 (map entry (map (word_under revision) ws))) (schema_of revision (map entry ws)) (find_under ws) (single_under ws)

  -- A word's entry is for the same number and tag under each revision.
  pub for_under : (w n t : ℕ) → eqb (entry (word_under revision w)).number n && eqb (entry (word_under revision w)).tag t ≡ eqb (entry w).number n && eqb (entry w).tag t
  for_under w n t = rw (entry_under w) refl
