-- An index built in cleared cells has the schema of the accepted prefix.
use Prim.Native.Nat.{ℕ, zero, suc, ◌+◌, ◌%◌, ◌≤◌, ◌<◌}
use native.Mathlib.Omega.{arith}
use mathlib.Core.Path.{◌≡◌, refl, sym, ap, ◌∙◌}
use mathlib.Core.Bool.{Bool, true, false, cond, not, ◌&&◌, ◌||◌, or-true, or-false, false≢true}
use mathlib.Core.List.{List, [], ◌∷◌, ◌++◌, map}
use lib.ListN.{replicate}
use lib.Seq.{append_snoc}
use lib.Dec.{eqb, ltb}
use borrow.Author.Tests.{eqb-true, eqb-false, eq-eqb, ne_eqb, ltb-true, ltb-false}
use Rattle.table.specs.Entry.{entry, meaning, find, marked_single}
use Rattle.table.specs.Load.{pair, seen}
use Rattle.table.specs.Schema.{schema_of}
use Rattle.table.specs.Repeat.{distinct}
use Rattle.table.specs.declared.Meaning.TheVariants.{Raw}
use Rattle.octets.proofs.Bools.{and_left, and_right}
use Rattle.table.proofs.Repeat.{seen_append, seen_one, distinct_snoc}
use Rattle.table.proofs.Schemas.{same_schema, find_large, single_large}
use Rattle.table_index.specs.internal.Cells.{key_of, word_key, cell_of, meaning_in, single_in, order_in, search, insertable, insertable_at, prefix_end, cell_for, indexed, OneOrder}
use Rattle.table_index.proofs.Meanings.{none, single_none, cell_large, cell_small}
use Rattle.table_index.proofs.Words.{Small, cell_some, cell_order, cell_means, cell_single, key_is, key_fits}
use Rattle.table_index.proofs.Found.{last_cell, index_after, found_last}

-- The first k words, each given by its index.
unfoldable pub words_of : (ℕ → ℕ) → ℕ → List ℕ
words_of word zero = []
words_of word (suc k) = words_of word k ++ (word k ∷ [])

-- ---- the words with a key

-- Whether a word's entry is for a number and a tag.
abbrev fits : ℕ → ℕ → ℕ → Bool
fits n t w = eqb (entry w).number n && eqb (entry w).tag t

-- What the first word for a number and a tag gives; a given value if there is none.
unfoldable first : {A : Type 0} → (ℕ → A) → A → ℕ → ℕ → List ℕ → A
first f none n t [] = none
first f none n t (w ∷ ws) = cond (fits n t w) (f w) (first f none n t ws)

-- Kinds and marks are such values.
find_first : (ws : List ℕ) (n t : ℕ) → find (map entry ws) n t ≡ first (λ w. meaning (entry w)) Raw n t ws
unfolding find first
find_first [] n t = refl
find_first (w ∷ ws) n t = rw (find_first ws n t) refl

single_first : (ws : List ℕ) (n t : ℕ) → marked_single (map entry ws) n t ≡ first (λ w. eqb (entry w).mark 1) false n t ws
unfolding marked_single first
single_first [] n t = refl
single_first (w ∷ ws) n t = rw (single_first ws n t) refl

module _ (word : ℕ → ℕ) where
  abbrev SmallBefore : ℕ → Type 0
  SmallBefore k = (j : ℕ) → j < k → Small (word j)

  -- A pair was seen exactly if its key has a cell.
  seen_last : (w k : ℕ) → Small w → k ≤ 64 → SmallBefore k → seen (pair w) (words_of word k) ≡ not (eqb (last_cell word k (word_key w)) 0)
  unfolding words_of last_cell seen
  seen_last w zero s few small = refl
  seen_last w (suc k) s few small =
      seen_append (pair w) (words_of word k) (word k ∷ [])
      ∙ rw (seen_one (pair w) (word k), seen_last w k s (omega arith) (λ j l. small j (omega arith)), ← key_is w s, ← key_is (word k) (small k (omega arith)))
      (go (eqb (word_key (word k)) (word_key w)))
    where
      go : (t : Bool) → not (eqb (last_cell word k (word_key w)) 0) || t ≡ not (eqb (cond t (cell_of (word k) k) (last_cell word k (word_key w))) 0)
      go true = rw (ne_eqb (cell_of (word k) k) 0 (cell_some (word k) (small k (omega arith)) k few)) (or-true (not (eqb (last_cell word k (word_key w)) 0)))
      go false = or-false (not (eqb (last_cell word k (word_key w)) 0))

  module _ {A : Type 0} (f : ℕ → A) (none : A) (n t : ℕ) (h : t < 65536) where
    -- Words without a cell for the key do not change what the first word gives.
    first_past : (k : ℕ) → SmallBefore k → k ≤ 64 → last_cell word k (key_of n t) ≡ 0 → (ws : List ℕ) → first f none n t (words_of word k ++ ws) ≡ first f none n t ws
    unfolding words_of last_cell first
    first_past zero small few e ws = refl
    first_past (suc k) small few e ws =
        go (eqb (word_key (word k)) (key_of n t)) refl e (λ z. first_past k (λ j l. small j (omega arith)) (omega arith) z (word k ∷ ws))
      where
        go : (b : Bool) → eqb (word_key (word k)) (key_of n t) ≡ b → cond b (cell_of (word k) k) (last_cell word k (key_of n t)) ≡ 0
            → (last_cell word k (key_of n t) ≡ 0 → first f none n t (words_of word k ++ (word k ∷ ws)) ≡ first f none n t (word k ∷ ws))
            → first f none n t (words_of word (suc k) ++ ws) ≡ first f none n t ws
        go true p z rest = absurd (cell_some (word k) (small k (omega arith)) k few z)
        go false p z rest =
            let q : fits n t (word k) ≡ false = sym (key_fits (word k) (small k (omega arith)) n t h) ∙ p in
            ap (first f none n t) (append_snoc (words_of word k) (word k) ws) ∙ rest z ∙ rw q refl

    first_snoc : (ws : List ℕ) (w : ℕ) → fits n t w ≡ false → first f none n t (ws ++ (w ∷ [])) ≡ first f none n t ws
    unfolding first
    first_snoc [] w e = rw e refl
    first_snoc (x ∷ ws) w e = rw (first_snoc ws w e) refl

    -- If no key is repeated, the cell of a key tells what the first word for its number and tag gives.
    first_last : (read : ℕ → A) → read 0 ≡ none → ((w : ℕ) → Small w → (i : ℕ) → i < 64 → read (cell_of w i) ≡ f w)
        → (k : ℕ) → SmallBefore k → k ≤ 64 → ((j : ℕ) → j < k → last_cell word j (word_key (word j)) ≡ 0)
        → read (last_cell word k (key_of n t)) ≡ first f none n t (words_of word k)
    unfolding words_of last_cell first
    first_last read empty reads zero small few new = empty
    first_last read empty reads (suc k) small few new =
        go (eqb (word_key (word k)) (key_of n t)) refl (first_last read empty reads k (λ j l. small j (omega arith)) (omega arith) (λ j l. new j (omega arith)))
      where
        s : Small (word k)
        s = small k (omega arith)

        go : (b : Bool) → eqb (word_key (word k)) (key_of n t) ≡ b → read (last_cell word k (key_of n t)) ≡ first f none n t (words_of word k)
            → read (cond b (cell_of (word k) k) (last_cell word k (key_of n t))) ≡ first f none n t (words_of word k ++ (word k ∷ []))
        go true p rest =
            let q : fits n t (word k) ≡ true = sym (key_fits (word k) s n t h) ∙ p in
            let z : last_cell word k (key_of n t) ≡ 0 = ap (last_cell word k) (sym (eqb-true (word_key (word k)) (key_of n t) p)) ∙ new k (omega arith) in
            reads (word k) s k few ∙ sym (first_past k (λ j l. small j (omega arith)) (omega arith) z (word k ∷ []) ∙ rw q refl)
        go false p rest =
            let q : fits n t (word k) ≡ false = sym (key_fits (word k) s n t h) ∙ p in
            rest ∙ sym (first_snoc (words_of word k) (word k) q)

  -- The cell of a key has the order of a word with that key.
  pub last_order : (k key : ℕ) → SmallBefore k → k ≤ 64 → (last_cell word k key ≡ 0 → ⊥) → (last_cell word k key % 64 < k) × (word_key (word (last_cell word k key % 64)) ≡ key)
  unfolding last_cell
  last_order zero key small few d = absurd (d refl)
  last_order (suc k) key small few d = go (eqb (word_key (word k)) key) refl d (last_order k key (λ j l. small j (omega arith)) (omega arith))
    where
      go : (b : Bool) → eqb (word_key (word k)) key ≡ b → (cond b (cell_of (word k) k) (last_cell word k key) ≡ 0 → ⊥)
          → ((last_cell word k key ≡ 0 → ⊥) → (last_cell word k key % 64 < k) × (word_key (word (last_cell word k key % 64)) ≡ key))
          → (cond b (cell_of (word k) k) (last_cell word k key) % 64 < suc k) × (word_key (word (cond b (cell_of (word k) k) (last_cell word k key) % 64)) ≡ key)
      go true p d rest =
          let o = cell_order (word k) (small k (omega arith)) k few in
          (omega (arith, o), rw o (eqb-true (word_key (word k)) key p))
      go false p d rest = (omega (arith, (rest d).0), (rest d).1)

-- ---- the accepted prefix

pub prefix_few : (good : ℕ → Bool) (word : ℕ → ℕ) (cells : List ℕ) (remaining i : ℕ) → prefix_end good word cells i remaining ≤ i + remaining
unfolding prefix_end
prefix_few good word cells zero i = omega arith
prefix_few good word cells (suc remaining) i = go (insertable_at good word cells i) (prefix_few good word cells remaining (suc i))
  where
    go : (a : Bool) → prefix_end good word cells (suc i) remaining ≤ suc i + remaining → cond a (prefix_end good word cells (suc i) remaining) i ≤ i + suc remaining
    go true h = omega arith
    go false h = omega arith

prefix_each : (good : ℕ → Bool) (word : ℕ → ℕ) (cells : List ℕ) (remaining i j : ℕ) → i ≤ j → j < prefix_end good word cells i remaining → insertable_at good word cells j ≡ true
unfolding prefix_end
prefix_each good word cells zero i j h l = absurd (omega arith)
prefix_each good word cells (suc remaining) i j h l = go (insertable_at good word cells i) refl l (eqb i j) refl (λ a b. prefix_each good word cells remaining (suc i) j a b)
  where
    go : (a : Bool) → insertable_at good word cells i ≡ a → j < cond a (prefix_end good word cells (suc i) remaining) i → (b : Bool) → eqb i j ≡ b
        → (suc i ≤ j → j < prefix_end good word cells (suc i) remaining → insertable_at good word cells j ≡ true) → insertable_at good word cells j ≡ true
    go false e m b q rest = absurd (omega arith)
    go true e m true q rest = rw (← eqb-true i j q) e
    go true e m false q rest = rest (omega (arith, eqb-false i j q)) m

prefix_stops : (good : ℕ → Bool) (word : ℕ → ℕ) (cells : List ℕ) (remaining i : ℕ) → prefix_end good word cells i remaining < i + remaining
    → insertable_at good word cells (prefix_end good word cells i remaining) ≡ false
unfolding prefix_end
prefix_stops good word cells zero i l = absurd (omega arith)
prefix_stops good word cells (suc remaining) i l = go (insertable_at good word cells i) refl l (prefix_stops good word cells remaining (suc i))
  where
    go : (a : Bool) → insertable_at good word cells i ≡ a → cond a (prefix_end good word cells (suc i) remaining) i < i + suc remaining
        → (prefix_end good word cells (suc i) remaining < suc i + remaining → insertable_at good word cells (prefix_end good word cells (suc i) remaining) ≡ false)
        → insertable_at good word cells (cond a (prefix_end good word cells (suc i) remaining) i) ≡ false
    go true e m rest = rest (omega arith)
    go false e m rest = e

module _ (good : ℕ → Bool) (word : ℕ → ℕ) (range : (j : ℕ) → good j ≡ true → Small (word j)) (most : ℕ) (few : most ≤ 64)
    (k : ℕ) (count : k ≡ prefix_end good word (replicate 128 0) 0 most) where
  pub within : k ≤ most
  within = omega (arith, prefix_few good word (replicate 128 0) most 0)

  each : (j : ℕ) → j < k → insertable_at good word (replicate 128 0) j ≡ true
  each j l = prefix_each good word (replicate 128 0) most 0 j (omega arith) (omega arith)

  pub each_good : (j : ℕ) → j < k → good j ≡ true
  unfolding insertable_at
  each_good j l = and_left (good j) (insertable (word j) (index_after word j)) (each j l)

  each_insertable : (j : ℕ) → j < k → insertable (word j) (index_after word j) ≡ true
  unfolding insertable_at
  each_insertable j l = and_right (good j) (insertable (word j) (index_after word j)) (each j l)

  small_before : (i : ℕ) → i ≤ k → (j : ℕ) → j < i → Small (word j)
  small_before i h j l = range j (each_good j (omega arith))

  found : (i : ℕ) → i ≤ k → (key : ℕ) → search (index_after word i) key ≡ last_cell word i key
  found i h = found_last word i (omega (arith, within)) (small_before i h) (λ j l. each_insertable j (omega arith))

  -- A good word is insertable exactly if its pair was not seen.
  seen_is : (i : ℕ) → i ≤ k → good i ≡ true → seen (pair (word i)) (words_of word i) ≡ not (insertable (word i) (index_after word i))
  unfolding insertable
  seen_is i h g =
      seen_last word (word i) i (range i g) (omega (arith, within)) (small_before i h) ∙ rw (found i h (word_key (word i))) refl

  pub apart : (i : ℕ) → i ≤ k → distinct (words_of word i) ≡ true
  unfolding words_of distinct
  apart zero h = refl
  apart (suc i) h =
      distinct_snoc (words_of word i) (word i) (apart i (omega arith)) (seen_is i (omega arith) (each_good i h) ∙ rw (each_insertable i h) refl)

  -- The word after the prefix is not good, or its pair was seen.
  pub stopped : k < most → good k ≡ true → seen (pair (word k)) (words_of word k) ≡ true
  unfolding insertable_at
  stopped l g =
      let e : good k && insertable (word k) (index_after word k) ≡ false =
      ap (insertable_at good word (replicate 128 0)) count ∙ prefix_stops good word (replicate 128 0) most 0 (omega arith) in
      let f : insertable (word k) (index_after word k) ≡ false = ap (λ (b : Bool). b && insertable (word k) (index_after word k)) (sym g) ∙ e in
      seen_is k (omega arith) g ∙ rw f refl

  new_before : (j : ℕ) → j < k → last_cell word j (word_key (word j)) ≡ 0
  unfolding insertable
  new_before j l = sym (found j (omega arith) (word_key (word j))) ∙ eqb-true (search (index_after word j) (word_key (word j))) 0 (each_insertable j l)

  -- What the cell of a number and a tag tells is what the first word for them gives.
  prefix_first : {A : Type 0} (f : ℕ → A) (none : A) (read : ℕ → A) → read 0 ≡ none → ((w : ℕ) → Small w → (i : ℕ) → i < 64 → read (cell_of w i) ≡ f w)
      → (n t : ℕ) → t < 65536 → read (cell_for (index_after word k) n t) ≡ first f none n t (words_of word k)
  prefix_first f none read empty reads n t h =
      ap read (cell_small (index_after word k) n t h ∙ found k (omega arith) (key_of n t))
      ∙ first_last word f none n t h read empty reads k (small_before k (omega arith)) (omega (arith, within)) new_before

  pub prefix_schema : indexed (index_after word k) ≡ schema_of 2 (map entry (words_of word k))
  unfolding indexed schema_of
  prefix_schema =
      same_schema (indexed (index_after word k)) (schema_of 2 (map entry (words_of word k))) (λ n t. means n t (ltb t 65536) refl) (λ n t. marks n t (ltb t 65536) refl)
    where
      ws : List ℕ
      ws = words_of word k

      means : (n t : ℕ) (b : Bool) → ltb t 65536 ≡ b → meaning_in (cell_for (index_after word k) n t) ≡ find (map entry ws) n t
      means n t true e = prefix_first (λ w. meaning (entry w)) Raw meaning_in none cell_means n t (ltb-true t 65536 e) ∙ sym (find_first ws n t)
      means n t false e =
          let h = ltb-false t 65536 e in
          ap meaning_in (sym (cell_large (index_after word k) n t h)) ∙ none ∙ sym (find_large ws n t h)

      marks : (n t : ℕ) (b : Bool) → ltb t 65536 ≡ b → single_in (cell_for (index_after word k) n t) ≡ marked_single (map entry ws) n t
      marks n t true e = prefix_first (λ w. eqb (entry w).mark 1) false single_in single_none cell_single n t (ltb-true t 65536 e) ∙ sym (single_first ws n t)
      marks n t false e =
          let h = ltb-false t 65536 e in
          ap single_in (sym (cell_large (index_after word k) n t h)) ∙ single_none ∙ sym (single_large ws n t h)

  -- The cell of a number and a tag has the order of the word whose entry is for them.
  abbrev Ordered : ℕ → ℕ → ℕ → Type 0
  Ordered n t c = (order_in c < k) × (fits n t (word (order_in c)) ≡ true)

  pub prefix_order : (n t : ℕ) → (cell_for (index_after word k) n t ≡ 0 → ⊥) → Ordered n t (cell_for (index_after word k) n t)
  unfolding cell_for order_in
  prefix_order n t d = go (ltb t 65536) refl d
    where
      go : (b : Bool) → ltb t 65536 ≡ b → (cond b (search (index_after word k) (key_of n t)) 0 ≡ 0 → ⊥) → Ordered n t (cond b (search (index_after word k) (key_of n t)) 0)
      go true e d =
          let f = found k (omega arith) (key_of n t) in
          let c = last_cell word k (key_of n t) in
          let o = last_order word k (key_of n t) (small_before k (omega arith)) (omega (arith, within)) (λ z. d (f ∙ z)) in
          let s = small_before k (omega arith) (c % 64) o.0 in
          rw f (o.0, sym (key_fits (word (c % 64)) s n t (ltb-true t 65536 e)) ∙ eq-eqb (word_key (word (c % 64))) (key_of n t) o.1)
      go false e d = absurd (d refl)

  -- So two single tags of a number whose cells have the same order are the same tag.
  pub prefix_one_order : OneOrder (index_after word k)
  unfolding OneOrder
  prefix_one_order n t u p q e =
      let a = tag_is n t p in
      let b = tag_is n u q in
      sym a ∙ rw e b
    where
      tag_is : (n t : ℕ) → single_in (cell_for (index_after word k) n t) ≡ true → (entry (word (order_in (cell_for (index_after word k) n t)))).tag ≡ t
      tag_is n t p =
          let c = cell_for (index_after word k) n t in
          let w = word (order_in c) in
          let o = prefix_order n t (λ z. false≢true (sym single_none ∙ ap single_in (sym z) ∙ p)) in
          eqb-true (entry w).tag t (and_right (eqb (entry w).number n) (eqb (entry w).tag t) o.1)
