-- Under a table with entries left out, a tag whose entry stays keeps its kind and its mark, and any other tag is raw.
use Prim.Native.Nat.{ℕ, ◌≤◌}
use native.Mathlib.Omega.{arith}
use mathlib.Core.Path.{◌≡◌, refl, sym, ap, ◌∙◌}
use mathlib.Core.Bool.{Bool, true, false, not, ◌||◌, true≢false, and-false}
use mathlib.Core.List.{List, [], ◌∷◌, map}
use lib.ListN.{length, take, length-take}
use lib.Dec.{eqb}
use borrow.Author.Tests.{eq-eqb, not-true}
use Rattle.octets.proofs.Bools.{and_left, and_right, and_both, or_left, or_right, or_neither, or_first, or_second}
use Rattle.table.specs.declared.Meaning.TheVariants.{Raw}
use Rattle.table.specs.Entry.{Entry, entry, entries, find, marked_single}
use Rattle.table.specs.LeftOut.{LeftOut, none, stays, goes, has_entry}
use Rattle.table.specs.Load.{in_range, pair, seen, accepted, load}
use Rattle.table.specs.Repeat.{distinct}
use Rattle.table.specs.Schema.{schema_of, schema}
use Rattle.table.specs.Valid.{all_in_range, valid}
use Rattle.table.specs.declared.Table.{Table}
use Rattle.octets.specs.Number.{Octets}
use Rattle.table.proofs.Records.{loaded_entries}
use Rattle.table.proofs.Valid.{parts}
use Rattle.table.proofs.WordRecords.{load_records, records_of_lem}
use Rattle.table.proofs.Orders.{is_for, same_pair}

-- ---- entries and words

-- What is left out of the entries of words is left out of the words.
words_left : (es fs : List Entry) → LeftOut es fs → (ws : List ℕ) → es ≡ map entry ws → (us : List ℕ) × LeftOut ws us × (map entry us ≡ fs)
words_left es fs none [] e = ([], none, refl)
words_left es fs none (w ∷ ws) e = let z : ◌≡◌ {A = ℕ} 0 1 = cc in absurd (omega arith)
words_left es fs (stays x xs ys l) [] e = let z : ◌≡◌ {A = ℕ} 0 1 = cc in absurd (omega arith)
words_left es fs (stays x xs ys l) (w ∷ ws) e = let r = words_left xs ys l ws (cc) in let p = r.2 in (w ∷ r.0, stays w ws r.0 r.1, cc)
words_left es fs (goes x xs ys l) [] e = let z : ◌≡◌ {A = ℕ} 0 1 = cc in absurd (omega arith)
words_left es fs (goes x xs ys l) (w ∷ ws) e = let r = words_left xs ys l ws (cc) in (r.0, goes w ws r.0 r.1, r.2)

-- The pair of a word is seen among words whose entries have one for the same number and tag.
entry_seen : (w : ℕ) (ws : List ℕ) (n t : ℕ) → is_for n t (entry w) ≡ true → has_entry (map entry ws) n t ≡ true → seen (pair w) ws ≡ true
unfolding has_entry seen
entry_seen w [] n t e h = absurd (true≢false (sym h))
entry_seen w (v ∷ ws) n t e h = go (is_for n t (entry v)) refl h (entry_seen w ws n t e)
  where
    go : (b : Bool) → is_for n t (entry v) ≡ b → b || has_entry (map entry ws) n t ≡ true → (has_entry (map entry ws) n t ≡ true → seen (pair w) ws ≡ true)
        → eqb (pair v) (pair w) || seen (pair w) ws ≡ true
    go true f k rest = or_first (eqb (pair v) (pair w)) (seen (pair w) ws) (eq-eqb (pair v) (pair w) (same_pair v w n t f e))
    go false f k rest = or_second (eqb (pair v) (pair w)) (seen (pair w) ws) (rest k)

-- ---- what a tag means

-- A tag without an entry is raw and not marked single.
none_found : (es : List Entry) (n t : ℕ) → has_entry es n t ≡ false → (find es n t ≡ Raw) × (marked_single es n t ≡ false)
unfolding has_entry find marked_single
none_found [] n t h = (refl, refl)
none_found (e ∷ es) n t h =
    rw (or_left (is_for n t e) (has_entry es n t) h) (none_found es n t (or_right (is_for n t e) (has_entry es n t) h))

-- A tag whose entry stays: it had an entry before, with the same kind and the same mark.
record Same (ws us : List ℕ) (n t : ℕ) : Type 0 where
  kind : find (map entry us) n t ≡ find (map entry ws) n t
  mark : marked_single (map entry us) n t ≡ marked_single (map entry ws) n t
  in_all : has_entry (map entry ws) n t ≡ true

-- No two words have the same pair. So an entry that is left out is for no tag that still has an entry.
same_found : (ws us : List ℕ) (n t : ℕ) → LeftOut ws us → distinct ws ≡ true → has_entry (map entry us) n t ≡ true → Same ws us n t
unfolding has_entry find marked_single distinct
same_found ws us n t none d h = record { kind = refl; mark = refl; in_all = h }
same_found ws us n t (stays w vs rest l) d h =
    go (is_for n t (entry w)) refl h (same_found vs rest n t l (and_right (not (seen (pair w) vs)) (distinct vs) d))
  where
    go : (b : Bool) → is_for n t (entry w) ≡ b → b || has_entry (map entry rest) n t ≡ true → (has_entry (map entry rest) n t ≡ true → Same vs rest n t)
        → Same ws us n t
    go true q k same = record { kind = rw q refl; mark = rw q refl; in_all = rw q refl }
    go false q k same = let s = same k in record { kind = rw q s.kind; mark = rw q s.mark; in_all = rw q s.in_all }
same_found ws us n t (goes w vs rest l) d h =
    go (is_for n t (entry w)) refl (same_found vs rest n t l (and_right (not (seen (pair w) vs)) (distinct vs) d) h)
  where
    go : (b : Bool) → is_for n t (entry w) ≡ b → Same vs rest n t → Same ws us n t
    go true q s =
        let none = not-true (seen (pair w) vs) (and_left (not (seen (pair w) vs)) (distinct vs) d) in
        absurd (true≢false (sym (entry_seen w vs n t q s.in_all) ∙ none))
    go false q s = record { kind = s.kind ∙ rw q refl; mark = s.mark ∙ rw q refl; in_all = rw q s.in_all }

-- ---- the same of schemas, under any revision

module _ (revision : ℕ) (fs : List Entry) (n t : ℕ) where
  -- A tag without an entry is raw and not single.
  pub gone_meaning : has_entry fs n t ≡ false → ((schema_of revision fs).means n t ≡ Raw) × ((schema_of revision fs).single n t ≡ false)
  unfolding schema_of
  gone_meaning h = let r = none_found fs n t h in (r.0, rw r.1 (and-false (eqb revision 2)))

  -- A tag whose entry stays means the same.
  pub kept_meaning : (table : Table) → valid table ≡ true → LeftOut (entries table) fs → has_entry fs n t ≡ true
      → ((schema_of revision fs).means n t ≡ (schema revision table).means n t) × ((schema_of revision fs).single n t ≡ (schema revision table).single n t)
  unfolding schema_of schema entries
  kept_meaning table v l h =
      let ws = take table.count table.words in
      let u = words_left (entries table) fs l ws refl in
      let s = same_found ws u.0 n t u.1 (parts table v).apart (rw u.2 h) in
      rw (← u.2) (s.kind, rw s.mark refl)

-- ---- leaving out entries of a table gives a table

-- At most as many are left.
pub left_fewer : (ws us : List ℕ) → LeftOut ws us → length us ≤ length ws
left_fewer ws us none = omega arith
left_fewer ws us (stays w l rest s) = let h = left_fewer l rest s in omega arith
left_fewer ws us (goes w l rest s) = let h = left_fewer l rest s in omega arith

left_range : (ws us : List ℕ) → LeftOut ws us → all_in_range ws ≡ true → all_in_range us ≡ true
unfolding all_in_range
left_range ws us none r = r
left_range ws us (stays w l rest s) r =
    let a = in_range (entry w) in
    and_both a (all_in_range rest) (and_left a (all_in_range l) r) (left_range l rest s (and_right a (all_in_range l) r))
left_range ws us (goes w l rest s) r = left_range l rest s (and_right (in_range (entry w)) (all_in_range l) r)

left_unseen : (p : ℕ) (ws us : List ℕ) → LeftOut ws us → seen p ws ≡ false → seen p us ≡ false
unfolding seen
left_unseen p ws us none h = h
left_unseen p ws us (stays w l rest s) h =
    let a = eqb (pair w) p in
    or_neither a (seen p rest) (or_left a (seen p l) h) (left_unseen p l rest s (or_right a (seen p l) h))
left_unseen p ws us (goes w l rest s) h = left_unseen p l rest s (or_right (eqb (pair w) p) (seen p l) h)

left_distinct : (ws us : List ℕ) → LeftOut ws us → distinct ws ≡ true → distinct us ≡ true
unfolding distinct
left_distinct ws us none d = d
left_distinct ws us (stays w l rest s) d =
    let a = not (seen (pair w) l) in
    let h = left_unseen (pair w) l rest s (not-true (seen (pair w) l) (and_left a (distinct l) d)) in
    and_both (not (seen (pair w) rest)) (distinct rest) (ap not h) (left_distinct l rest s (and_right a (distinct l) d))
left_distinct ws us (goes w l rest s) d = left_distinct l rest s (and_right (not (seen (pair w) l)) (distinct l) d)

-- So there is a table with the entries that stay, if the loader can return the table with all of them.
pub left_out_loads : (t : Table) → valid t ≡ true → (fs : List Entry) → LeftOut (entries t) fs
    → (s : List ℕ) × Octets s × ((load s).refusal ≡ 0) × (entries (load s).table ≡ fs)
unfolding entries accepted
left_out_loads t v fs l =
    let ws = take t.count t.words in
    let p = parts t v in
    let u = words_left (entries t) fs l ws refl in
    let us = u.0 in
    let few : length ws ≤ 64 = omega (arith, length-take t.count t.words, p.few) in
    let fewer = left_fewer ws us u.1 in
    let r = records_of_lem us (left_range ws us u.1 p.range) in
    let e = load_records r.0 us r.2 (omega arith) (left_range ws us u.1 p.range) (left_distinct ws us u.1 p.apart) in
    (r.0, r.1, rw e refl, rw e (loaded_entries us ∙ u.2))
