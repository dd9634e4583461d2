-- What an index built in cleared cells tells of its table: the loader's result and the table's schema.
use Prim.Native.Nat.{ℕ, zero, suc, ◌≤◌, ◌<◌, min}
use native.Mathlib.Omega.{arith}
use mathlib.Core.Path.{◌≡◌, refl, sym, ap, ◌∙◌}
use mathlib.Core.Bool.{Bool, true, false, not, ◌&&◌, ◌||◌, and-false, true≢false, false≢true}
use mathlib.Core.List.{List, [], ◌∷◌, map}
use lib.ListN.{length, take, drop, get_or, replicate, length-take}
use lib.Seq.{take-length, take-suc}
use lib.Dec.{eqb, leb, ltb}
use borrow.Author.Tests.{eqb-true, eqb-false, eq-eqb, ne_eqb, leb-true, le-leb, ltb-true, ltb-false}
use Rattle.table.specs.Entry.{entry, entries}
use Rattle.table.specs.Load.{in_range, place_at, record_at, word_at, well_formed, words_before, pair, seen, faulty, accepted, refused, load}
use Rattle.table.specs.Mask.{order}
use Rattle.table.specs.Repeat.{distinct}
use Rattle.table.specs.Schema.{schema_of, schema}
use Rattle.table.specs.Valid.{all_in_range, all_zero, valid}
use Rattle.table.specs.declared.Table.{Table}
use Rattle.octets.proofs.Bools.{and_both}
use Rattle.table.proofs.Load.{load_whole, load_fault, faulty_form, faulty_seen, faulty_late, well_formed_range}
use Rattle.table.proofs.Orders.{order_at}
use Rattle.table.proofs.Repeat.{seen_at}
use Rattle.table.proofs.Schemas.{words_schema}
use Rattle.table.proofs.Valid.{range_at, parts}
use Rattle.table_index.specs.internal.Cells.{word_under, inserted_before, prefix_end, prefix_length, inserted_words, all_inserted, order_in, cell_for, indexed, OneOrder}
use Rattle.table_index.proofs.Words.{Small, small}
use Rattle.table_index.proofs.AcceptedPrefix.{words_of, prefix_few, within, each_good, apart, stopped, prefix_schema, prefix_order, prefix_one_order}
use Rattle.table_index.proofs.Revisions.{for_under, range_under, pair_under, seen_under, distinct_under, words_under, schema_under}

-- ---- from octets

words_read : (s : List ℕ) (k : ℕ) → words_of (word_at s) k ≡ words_before s k
unfolding words_of words_before
words_read s zero = refl
words_read s (suc k) = rw (words_read s k) refl

module _ (revision : ℕ) (s : List ℕ) (n : ℕ)
    (count : n ≡ prefix_end (λ i. well_formed (record_at s i)) (λ i. word_under revision (word_at s i)) (replicate 128 0) 0 64) where
  abbrev good : ℕ → Bool
  good i = well_formed (record_at s i)

  abbrev record_under : ℕ → ℕ
  record_under i = word_under revision (word_at s i)

  range : (j : ℕ) → good j ≡ true → Small (record_under j)
  range j g = small (record_under j) (range_under revision (word_at s j) (well_formed_range s j g))

  words_are : words_of record_under n ≡ map (word_under revision) (words_before s n)
  words_are = words_under revision (word_at s) n ∙ ap (map (word_under revision)) (words_read s n)

  pub octets_few : n ≤ 64
  octets_few = within good record_under range 64 (omega arith) n count

  formed : (j : ℕ) → j < n → good j ≡ true
  formed = each_good good record_under range 64 (omega arith) n count

  no_repeat : distinct (words_before s n) ≡ true
  no_repeat =
      sym (ap distinct words_are ∙ distinct_under revision (words_before s n)) ∙ apart good record_under range 64 (omega arith) n count n (omega arith)

  seen_before : n < 64 → good n ≡ true → seen (pair (word_at s n)) (words_before s n) ≡ true
  seen_before l e =
      sym (rw (words_are, pair_under revision (word_at s n)) (seen_under revision (pair (word_at s n)) (words_before s n)))
      ∙ stopped good record_under range 64 (omega arith) n count l e

  -- If the octets end after the accepted prefix, the loader accepts them.
  pub octets_accepted : length s ≤ place_at s n → load s ≡ accepted (words_before s n)
  octets_accepted h = load_whole s n octets_few formed no_repeat h

  -- Otherwise the loader rejects the record after it.
  pub octets_refused : place_at s n < length s → load s ≡ refused (place_at s n)
  octets_refused h = load_fault s n octets_few formed no_repeat h (by_count (ltb n 64) refl)
    where
      by_form : n < 64 → (a : Bool) → good n ≡ a → faulty s n ≡ true
      by_form l true e = faulty_seen s n (seen_before l e)
      by_form l false e = faulty_form s n e

      by_count : (a : Bool) → ltb n 64 ≡ a → faulty s n ≡ true
      by_count true e = by_form (ltb-true n 64 e) (good n) refl
      by_count false e = faulty_late s n (ltb-false n 64 e)

  module _ (cells : List ℕ) (filled : cells ≡ inserted_before (λ i. word_under revision (word_at s i)) (replicate 128 0) n) where
    -- The index has the schema of the table.
    pub octets_schema : length s ≤ place_at s n → indexed cells ≡ schema revision (load s).table
    unfolding accepted
    octets_schema h =
        rw (filled, octets_accepted h, words_schema revision (words_before s n), ← schema_under revision (words_before s n), ← words_are)
        (prefix_schema good record_under range 64 (omega arith) n count)

    pub octets_one_order : OneOrder cells
    octets_one_order = rw filled (prefix_one_order good record_under range 64 (omega arith) n count)

-- ---- from words

words_prefix : (ws : List ℕ) (k : ℕ) → k ≤ length ws → words_of (λ i. get_or ws i 0) k ≡ take k ws
unfolding words_of
words_prefix ws zero h = refl
words_prefix ws (suc k) h = rw (words_prefix ws k (omega arith)) (sym (take-suc ws k 0 (omega arith)))

all_range : (ws : List ℕ) → ((j : ℕ) → j < length ws → in_range (entry (get_or ws j 0)) ≡ true) → all_in_range ws ≡ true
unfolding all_in_range
all_range [] h = refl
all_range (w ∷ ws) h = and_both (in_range (entry w)) (all_in_range ws) (h 0 (omega arith)) (all_range ws (λ j l. h (suc j) (omega arith)))

-- Words with a pair that was seen before are not distinct.
distinct_not : (ws : List ℕ) (k : ℕ) → k < length ws → seen (pair (get_or ws k 0)) (take k ws) ≡ true → distinct ws ≡ false
unfolding distinct seen
distinct_not [] k h e = absurd (omega arith)
distinct_not (w ∷ ws) zero h e = absurd (false≢true e)
distinct_not (w ∷ ws) (suc k) h e = go (eqb (pair w) (pair (get_or ws k 0))) refl e (distinct_not ws k (omega arith))
  where
    go : (a : Bool) → eqb (pair w) (pair (get_or ws k 0)) ≡ a → a || seen (pair (get_or ws k 0)) (take k ws) ≡ true
        → (seen (pair (get_or ws k 0)) (take k ws) ≡ true → distinct ws ≡ false) → not (seen (pair w) ws) && distinct ws ≡ false
    go true q r rest = rw (seen_at (pair w) ws k (omega arith) (sym (eqb-true (pair w) (pair (get_or ws k 0)) q))) refl
    go false q r rest = rw (rest r) (and-false (not (seen (pair w) ws)))

module _ (revision : ℕ) (ws : List ℕ) (size : length ws ≤ 64) where
  abbrev good_word : ℕ → Bool
  good_word i = in_range (entry (get_or ws i 0))

  abbrev word : ℕ → ℕ
  word i = word_under revision (get_or ws i 0)

  most_is : min 64 (length ws) ≡ length ws
  most_is = omega arith

  abbrev n : ℕ
  n = prefix_length revision ws (replicate 128 0)

  prefix_is : n ≡ prefix_end good_word word (replicate 128 0) 0 (length ws)
  unfolding prefix_length
  prefix_is = ap (prefix_end good_word word (replicate 128 0) 0) most_is

  small_word : (j : ℕ) → good_word j ≡ true → Small (word j)
  small_word j g = small (word j) (range_under revision (get_or ws j 0) g)

  pub words_within : n ≤ length ws
  words_within = within good_word word small_word (length ws) size n prefix_is

  prefix_words : words_of word n ≡ map (word_under revision) (take n ws)
  prefix_words = words_under revision (λ i. get_or ws i 0) n ∙ ap (map (word_under revision)) (words_prefix ws n words_within)

  -- The accepted prefix has no pair twice. The word after it, if it is in range, repeats an earlier pair.
  pub words_apart : distinct (take n ws) ≡ true
  words_apart =
      sym (ap distinct prefix_words ∙ distinct_under revision (take n ws)) ∙ apart good_word word small_word (length ws) size n prefix_is n (omega arith)

  pub words_stopped : n < length ws → good_word n ≡ true → seen (pair (get_or ws n 0)) (take n ws) ≡ true
  words_stopped l e =
      sym (rw (prefix_words, pair_under revision (get_or ws n 0)) (seen_under revision (pair (get_or ws n 0)) (take n ws)))
      ∙ stopped good_word word small_word (length ws) size n prefix_is l e

  all_words : n ≡ length ws → words_of word n ≡ map (word_under revision) ws
  all_words e = prefix_words ∙ ap (λ (k : ℕ). map (word_under revision) (take k ws)) e ∙ ap (map (word_under revision)) (take-length ws)

  -- All words are inserted exactly if they are in range with no pair twice.
  pub words_used : eqb n (length ws) ≡ all_in_range ws && distinct ws
  words_used = go (eqb n (length ws)) refl
    where
      some_bad : n < length ws → (a : Bool) → good_word n ≡ a → (b : Bool) → all_in_range ws ≡ b → false ≡ b && distinct ws
      some_bad l a e false p = refl
      some_bad l false e true p = absurd (true≢false (sym (range_at ws n p l) ∙ e))
      some_bad l true e true p = sym (distinct_not ws n l (words_stopped l e))

      go : (a : Bool) → eqb n (length ws) ≡ a → a ≡ all_in_range ws && distinct ws
      go true e =
          let q : n ≡ length ws = eqb-true n (length ws) e in
          let d : distinct ws ≡ true = ap distinct (sym (take-length ws) ∙ ap (λ (k : ℕ). take k ws) (sym q)) ∙ words_apart in
          let r : all_in_range ws ≡ true = all_range ws (λ j l. each_good good_word word small_word (length ws) size n prefix_is j (omega arith)) in
          rw (r, d) refl
      go false e = some_bad (omega (arith, words_within, eqb-false n (length ws) e)) (good_word n) refl (all_in_range ws) refl

  words_schema_is : n ≡ length ws → indexed (inserted_words revision ws (replicate 128 0)) ≡ schema_of revision (map entry ws)
  unfolding inserted_words
  words_schema_is e =
      prefix_schema good_word word small_word (length ws) size n prefix_is ∙ ap (λ (l : List ℕ). schema_of 2 (map entry l)) (all_words e) ∙ schema_under revision ws

  words_order : n ≡ length ws → distinct ws ≡ true → (number tag : ℕ) → (cell_for (inserted_words revision ws (replicate 128 0)) number tag ≡ 0 → ⊥)
      → order_in (cell_for (inserted_words revision ws (replicate 128 0)) number tag) ≡ order (map entry ws) number tag
  unfolding inserted_words
  words_order e apart number tag d =
      let c = cell_for (inserted_before word (replicate 128 0) n) number tag in
      let o = prefix_order good_word word small_word (length ws) size n prefix_is number tag d in
      sym (order_at ws (order_in c) number tag apart (omega (arith, o.0)) (sym (for_under revision (get_or ws (order_in c) 0) number tag) ∙ o.1))

  words_one_order : OneOrder (inserted_words revision ws (replicate 128 0))
  unfolding inserted_words
  words_one_order = prefix_one_order good_word word small_word (length ws) size n prefix_is

-- ---- from a table value

-- Fewer words than the count are inserted, or all of them and the unused ones decide.
module _ (revision : ℕ) (words : List ℕ) (count : ℕ) (cells : List ℕ) (size : length words ≡ 64) (n : ℕ) (e : n ≡ prefix_length revision (take count words) cells) where
  used_length : length (take count words) ≡ min count 64
  used_length = length-take count words ∙ rw size refl

  pub table_incomplete : n < count → false ≡ all_inserted revision words count cells
  unfolding all_inserted
  table_incomplete h = rw (← e) (go (leb count 64) refl)
    where
      go : (a : Bool) → leb count 64 ≡ a → false ≡ a && eqb n (length (take count words)) && all_zero (drop count words)
      go false q = refl
      go true q = rw (ne_eqb n (length (take count words)) (λ z. omega (arith, z, used_length, leb-true count 64 q))) refl

  pub table_rest : {r : Bool} → count ≤ n → r ≡ all_zero (drop count words) → r ≡ all_inserted revision words count cells
  unfolding all_inserted prefix_length
  table_rest h q =
      let few : n ≤ min 64 (length (take count words)) =
      omega (arith, e, prefix_few (λ i. in_range (entry (get_or (take count words) i 0))) (λ i. word_under revision (get_or (take count words) i 0)) cells (min 64 (length (take count words))) 0) in
      q ∙ rw (← e, le-leb count 64 (omega arith), eq-eqb n (length (take count words)) (omega (arith, used_length))) refl

module _ (revision : ℕ) (t : Table) where
  abbrev used : List ℕ
  used = take t.count t.words

  used_few : t.count ≤ 64 → length used ≤ 64
  used_few h = omega (arith, length-take t.count t.words)

  -- All words are inserted exactly if the loader can return the table value.
  pub table_valid : {r : Bool} → r ≡ all_inserted revision t.words t.count (replicate 128 0) → r ≡ valid t
  unfolding all_inserted valid
  table_valid e = e ∙ go (leb t.count 64) refl
    where
      go : (a : Bool) → leb t.count 64 ≡ a
          → a && eqb (prefix_length revision used (replicate 128 0)) (length used) && all_zero (drop t.count t.words)
          ≡ a && all_in_range used && distinct used && all_zero (drop t.count t.words)
      go false q = refl
      go true q = rw (words_used revision used (used_few (leb-true t.count 64 q))) refl

  module _ {cells : List ℕ} (v : valid t ≡ true) (filled : cells ≡ inserted_words revision used (replicate 128 0)) where
    few_used : length used ≤ 64
    few_used = used_few (parts t v).few

    all_used : prefix_length revision used (replicate 128 0) ≡ length used
    all_used =
        let p = parts t v in
        let n = prefix_length revision used (replicate 128 0) in
        eqb-true n (length used) (words_used revision used few_used ∙ and_both (all_in_range used) (distinct used) p.range p.apart)

    -- Then the index has its schema,
    pub table_schema : indexed cells ≡ schema revision t
    unfolding schema entries
    table_schema = ap indexed filled ∙ words_schema_is revision used few_used all_used

    -- and the cell of an entry has the order of the entry.
    pub table_order : (number tag : ℕ) → (cell_for cells number tag ≡ 0 → ⊥) → order_in (cell_for cells number tag) ≡ order (entries t) number tag
    unfolding entries
    table_order number tag d = rw filled (words_order revision used few_used all_used (parts t v).apart number tag (rw filled at d))

    pub table_one_order : OneOrder cells
    table_one_order = rw filled (words_one_order revision used few_used)
