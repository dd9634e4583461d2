-- Laws of loading: the records before the first fault decide the result.
use Prim.Native.Nat.{ℕ, zero, suc, ◌+◌, ◌-◌, ◌≤◌, ◌<◌}
use native.Mathlib.Nat.{zero-add}
use native.Mathlib.Omega.{arith}
use mathlib.Core.Path.{◌≡◌, refl, ap, ◌∙◌}
use mathlib.Core.Logic.{◌⊎◌, inl, inr}
use mathlib.Core.Bool.{Bool, true, false, cond, not, ◌||◌, or-false}
use mathlib.Core.List.{List, [], ◌∷◌, ◌++◌}
use lib.ListN.{length, take, drop, get_or, length-append, length-take, length-drop, get_or-append}
use lib.Seq.{take-append-le, take_all, get_or_at}
use lib.Dec.{eqb, leb, ltb}
use borrow.Author.Tests.{eqb-true, le-leb, lt-leb, leb-true, leb-false, ltb-true, ltb-false}
use Rattle.table.specs.Entry.{entry}
use Rattle.table.specs.Load.{in_range, announced, record_size, place_at, record_at, word_of, word_at, well_formed, words_before, pair, seen, faulty, accepted, refused, load_from, load}
use Rattle.table.specs.Repeat.{distinct}
use Rattle.octets.proofs.Bools.{and_four, or_first, or_second}
use Rattle.table.proofs.Repeat.{distinct_before, distinct_last}

pub length_words : (s : List ℕ) (n : ℕ) → length (words_before s n) ≡ n
unfolding words_before
length_words s zero = refl
length_words s (suc n) = simp length-append (omega (arith, length_words s n))

-- The first k of them, and the one at j.
pub words_take : (s : List ℕ) (k n : ℕ) → k ≤ n → take k (words_before s n) ≡ words_before s k
unfolding words_before
words_take s zero zero h = refl
words_take s (suc k) zero h = absurd (omega arith)
words_take s k (suc n) h = go (leb k n) refl (words_take s k n)
  where
    go : (t : Bool) → leb k n ≡ t → (k ≤ n → take k (words_before s n) ≡ words_before s k) → take k (words_before s n ++ (word_at s n ∷ [])) ≡ words_before s k
    go true e rest =
        let l = leb-true k n e in
        take-append-le k (words_before s n) (word_at s n ∷ []) (omega (arith, length_words s n)) ∙ rest l
    go false e rest =
        let q : k ≡ suc n = omega (arith, leb-false k n e) in
        rw q (take_all (suc n) (words_before s n ++ (word_at s n ∷ [])) (simp length-append (omega (arith, length_words s n))))

pub words_at : (s : List ℕ) (j n : ℕ) → j < n → get_or (words_before s n) j 0 ≡ word_at s j
unfolding words_before
words_at s j zero h = absurd (omega arith)
words_at s j (suc n) h = go (ltb j n) refl (words_at s j n)
  where
    go : (t : Bool) → ltb j n ≡ t → (j < n → get_or (words_before s n) j 0 ≡ word_at s j) → get_or (words_before s n ++ (word_at s n ∷ [])) j 0 ≡ word_at s j
    go true e rest =
        let l = ltb-true j n e in
        get_or-append (words_before s n) (word_at s n ∷ []) 0 j (omega (arith, length_words s n)) ∙ rest l
    go false e rest =
        let q : j ≡ n = omega (arith, ltb-false j n e) in
        rw q (get_or_at (words_before s n) (word_at s n) [] 0 n (length_words s n))

-- The conditions of a well-formed record, one by one.
pub record Form (r : List ℕ) : Type 0 where
  pub tag : get_or r 0 0 ≡ 1
  pub size : (announced r ≡ 5) ⊎ (announced r ≡ 6)
  pub whole : length r ≡ 3 + announced r
  pub range : in_range (entry (word_of r)) ≡ true

either : (n a b : ℕ) → eqb n a || eqb n b ≡ true → (n ≡ a) ⊎ (n ≡ b)
either n a b e = go (eqb n a) refl e
  where
    go : (t : Bool) → eqb n a ≡ t → t || eqb n b ≡ true → (n ≡ a) ⊎ (n ≡ b)
    go true p q = inl (eqb-true n a p)
    go false p q = inr (eqb-true n b q)

pub form : (r : List ℕ) → well_formed r ≡ true → Form r
unfolding well_formed
form r e =
    let h = and_four (eqb (get_or r 0 0) 1) (eqb (announced r) 5 || eqb (announced r) 6) (eqb (length r) (3 + announced r)) (in_range (entry (word_of r))) e in
    record {
      tag = eqb-true (get_or r 0 0) 1 h.0;
      size = either (announced r) 5 6 h.1;
      whole = eqb-true (length r) (3 + announced r) h.2;
      range = h.3;
    }

-- ---- the size of a record

-- Eight octets or nine.
pub size_least : (s : List ℕ) → 8 ≤ record_size s
unfolding record_size
size_least s = go (eqb (announced s) 6)
  where
    go : (t : Bool) → 8 ≤ cond t 9 8
    go true = omega arith
    go false = omega arith

pub size_most : (s : List ℕ) → record_size s ≤ 9
unfolding record_size
size_most s = go (eqb (announced s) 6)
  where
    go : (t : Bool) → cond t 9 8 ≤ 9
    go true = omega arith
    go false = omega arith

-- It depends on the first three octets only.
front_of : (n : ℕ) (s : List ℕ) → announced (take (suc (suc (suc n))) s) ≡ announced s
unfolding announced
front_of n [] = refl
front_of n (a ∷ []) = refl
front_of n (a ∷ b ∷ []) = refl
front_of n (a ∷ b ∷ c ∷ s) = refl

pub announced_front : (n : ℕ) (s : List ℕ) → 3 ≤ n → announced (take n s) ≡ announced s
announced_front n s h =
    let e : n ≡ suc (suc (suc (n - 3))) = omega arith in
    rw e (front_of (n - 3) s)

size_front : (n : ℕ) (s : List ℕ) → 3 ≤ n → record_size (take n s) ≡ record_size s
unfolding record_size
size_front n s h = rw (announced_front n s h) refl

-- A well-formed record has as many octets as its size,
form_size : (r : List ℕ) → Form r → length r ≡ record_size r
unfolding record_size
form_size r f = go f.size
  where
    go : (announced r ≡ 5) ⊎ (announced r ≡ 6) → length r ≡ cond (eqb (announced r) 6) 9 8
    go (inl e) = rw e (f.whole ∙ rw e refl)
    go (inr e) = rw e (f.whole ∙ rw e refl)

-- so octets that begin with one are no fewer.
pub front_whole : (s : List ℕ) → well_formed (take (record_size s) s) ≡ true → record_size s ≤ length s
front_whole s e =
    let n = record_size s in
    let same = size_front n s (omega (arith, size_least s)) in
    omega (arith, same, length-take n s, form_size (take n s) (form (take n s) e))

-- Octets that are fewer do not begin with a well-formed record.
pub front_cut : (s : List ℕ) → length s < record_size s → well_formed (take (record_size s) s) ≡ false
front_cut s h = go (well_formed (take (record_size s) s)) refl
  where
    go : (t : Bool) → well_formed (take (record_size s) s) ≡ t → t ≡ false
    go true e = absurd (omega (arith, front_whole s e))
    go false e = refl

-- ---- the record at i

-- The next record begins at least 8 octets later, and every later one too.
pub place_more : (s : List ℕ) (i : ℕ) → place_at s i + 8 ≤ place_at s (suc i)
unfolding place_at
place_more s i = omega (arith, size_least (drop (place_at s i) s))

pub place_grows : (s : List ℕ) (i n : ℕ) → i ≤ n → place_at s i ≤ place_at s n
place_grows s i zero h =
    let e : i ≡ 0 = omega arith in
    rw e (omega arith)
place_grows s i (suc n) h = go (leb i n) refl (place_grows s i n)
  where
    go : (t : Bool) → leb i n ≡ t → (i ≤ n → place_at s i ≤ place_at s n) → place_at s i ≤ place_at s (suc n)
    go true q rest = omega (arith, rest (leb-true i n q), place_more s n)
    go false q rest =
        let e : i ≡ suc n = omega (arith, leb-false i n q) in
        rw e (omega arith)

-- A well-formed record has all its octets, and its entry is in range.
pub well_formed_whole : (s : List ℕ) (i : ℕ) → well_formed (record_at s i) ≡ true → place_at s (suc i) ≤ length s
unfolding record_at place_at
well_formed_whole s i e =
    let d = drop (place_at s i) s in
    omega (arith, front_whole d e, size_least d, length-drop (place_at s i) s)

pub well_formed_range : (s : List ℕ) (i : ℕ) → well_formed (record_at s i) ≡ true → in_range (entry (word_at s i)) ≡ true
unfolding word_at
well_formed_range s i e = (form (record_at s i) e).range

-- A well-formed record that is not the 65th is faulty exactly if its pair was seen.
faulty_pair : (s : List ℕ) (i : ℕ) → i < 64 → well_formed (record_at s i) ≡ true → faulty s i ≡ seen (pair (word_at s i)) (words_before s i)
unfolding faulty
faulty_pair s i h e = rw (e, lt-leb 64 i h) (or-false (seen (pair (word_at s i)) (words_before s i)))

load_on : (s : List ℕ) (fuel i : ℕ) → i < 64 → well_formed (record_at s i) ≡ true
    → load_from (suc fuel) i s ≡ cond (seen (pair (word_at s i)) (words_before s i)) (refused (place_at s i)) (load_from fuel (suc i) s)
unfolding load_from
load_on s fuel i h e = rw (lt-leb (length s) (place_at s i) (omega (arith, well_formed_whole s i e, place_more s i)), faulty_pair s i h e) refl

module _ (s : List ℕ) where
  -- If the records before the one at n are well-formed with no pair twice, loading continues at n.
  load_runs : (n fuel : ℕ) → n ≤ 64 → ((j : ℕ) → j < n → well_formed (record_at s j) ≡ true) → distinct (words_before s n) ≡ true
      → load_from (n + fuel) 0 s ≡ load_from fuel n s
  unfolding words_before
  load_runs zero fuel few formed apart = ap (λ (k : ℕ). load_from k 0 s) (zero-add fuel)
  load_runs (suc n) fuel few formed apart =
      let shift : suc n + fuel ≡ n + suc fuel = omega arith in
      ap (λ (k : ℕ). load_from k 0 s) shift
      ∙ load_runs n (suc fuel) (omega arith) (λ j h. formed j (omega arith)) (distinct_before (words_before s n) (word_at s n) apart)
      ∙ load_on s fuel n (omega arith) (formed n (omega arith))
      ∙ rw (distinct_last (words_before s n) (word_at s n) apart) refl

  module _ (n : ℕ) (few : n ≤ 64) (formed : (j : ℕ) → j < n → well_formed (record_at s j) ≡ true) (apart : distinct (words_before s n) ≡ true) where
    at_end : load s ≡ load_from (suc (64 - n)) n s
    unfolding load
    at_end =
        let fuel : 65 ≡ n + suc (64 - n) = omega arith in
        ap (λ (k : ℕ). load_from k 0 s) fuel ∙ load_runs n (suc (64 - n)) few formed apart

    -- The octets end at n.
    pub load_whole : length s ≤ place_at s n → load s ≡ accepted (words_before s n)
    unfolding load_from
    load_whole h = at_end ∙ rw (le-leb (length s) (place_at s n) h) refl

    -- The record at n is faulty.
    pub load_fault : place_at s n < length s → faulty s n ≡ true → load s ≡ refused (place_at s n)
    unfolding load_from
    load_fault h b = at_end ∙ rw (lt-leb (length s) (place_at s n) h, b) refl

-- A record that is not well-formed is faulty, and so is the 65th.
pub faulty_form : (s : List ℕ) (i : ℕ) → well_formed (record_at s i) ≡ false → faulty s i ≡ true
unfolding faulty
faulty_form s i e = rw e refl

pub faulty_late : (s : List ℕ) (i : ℕ) → 64 ≤ i → faulty s i ≡ true
unfolding faulty
faulty_late s i h =
    or_second (not (well_formed (record_at s i)) || seen (pair (word_at s i)) (words_before s i)) (leb 64 i) (le-leb 64 i h)

-- A record whose pair was seen before is faulty.
pub faulty_seen : (s : List ℕ) (i : ℕ) → seen (pair (word_at s i)) (words_before s i) ≡ true → faulty s i ≡ true
unfolding faulty
faulty_seen s i e =
    let a = not (well_formed (record_at s i)) in
    or_first (a || seen (pair (word_at s i)) (words_before s i)) (leb 64 i) (or_second a (seen (pair (word_at s i)) (words_before s i)) e)
