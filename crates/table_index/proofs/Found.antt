-- After inserting words, a search finds the cell of the last word with the key.
use Prim.Native.Nat.{ℕ, zero, suc, ◌+◌, ◌/◌, ◌%◌, ◌≤◌, ◌<◌}
use native.Mathlib.Omega.{arith}
use mathlib.Core.Path.{◌≡◌, refl, sym, ap, subst, ◌∙◌}
use mathlib.Core.Bool.{Bool, true, false, cond}
use mathlib.Core.List.{List}
use lib.ListN.{length, get_or, set, replicate, length-set, length-replicate, get_or-replicate}
use lib.Seq.{get_or-set_same, get_or-set_other}
use lib.Dec.{eqb, ltb}
use borrow.Author.Tests.{eqb-true, eqb-false, ltb-true, ltb-false}
use Rattle.table_index.specs.internal.Cells.{word_key, bucket_of, cell_of, chase, search, insertable, linked, inserted, inserted_before}
use Rattle.table_index.proofs.Chains.{bucket_low, chase_zero, chase_here, chase_ends, chase_on, chase_more, search_empty}
use Rattle.table_index.proofs.Words.{Small, cell_key, cell_order}

-- A cell is 0 or of an order below n.
abbrev Older : ℕ → ℕ → Type 0
Older n c = (c ≡ 0 → ⊥) → c % 64 < n

-- ---- one word more

-- The cells with `new` as the head of a bucket and `old` behind it, for the entry n.
module _ (cells : List ℕ) (n bucket old new : ℕ) (head : bucket < 64) where
  abbrev After : List ℕ
  After = set (set cells (64 + n) old) bucket new

  link_kept : (i : ℕ) → i < n → get_or After (64 + i) 0 ≡ get_or cells (64 + i) 0
  link_kept i h =
      get_or-set_other (set cells (64 + n) old) bucket (64 + i) new 0 (λ e. omega arith) ∙ get_or-set_other cells (64 + n) (64 + i) old 0 (λ e. omega arith)

  head_kept : (h : ℕ) → h < 64 → (h ≡ bucket → ⊥) → get_or After h 0 ≡ get_or cells h 0
  head_kept h l d =
      get_or-set_other (set cells (64 + n) old) bucket h new 0 d ∙ get_or-set_other cells (64 + n) h old 0 (λ e. omega arith)

  -- A chain of older cells is unchanged.
  chase_kept : (key fuel c : ℕ) → Older n c → chase fuel After key c ≡ chase fuel cells key c
  unfolding chase
  chase_kept key zero c low = refl
  chase_kept key (suc fuel) c low = by_cell (eqb c 0) refl (chase_kept key fuel (get_or cells (64 + c % 64) 0))
    where
      next : ℕ
      next = get_or cells (64 + c % 64) 0

      by_order : (t : Bool) → ltb (next % 64) (c % 64) ≡ t → (Older n next → chase fuel After key next ≡ chase fuel cells key next) → c % 64 < n
          → cond (eqb (c / 4096) key) c (cond t (chase fuel After key next) 0) ≡ cond (eqb (c / 4096) key) c (cond t (chase fuel cells key next) 0)
      by_order true e rest h = rw (rest (λ d. omega (arith, ltb-true (next % 64) (c % 64) e))) refl
      by_order false e rest h = refl

      by_cell : (t : Bool) → eqb c 0 ≡ t → (Older n next → chase fuel After key next ≡ chase fuel cells key next)
          → chase (suc fuel) After key c ≡ chase (suc fuel) cells key c
      by_cell true e rest = rw (eqb-true c 0 e) (chase_zero After key (suc fuel) ∙ sym (chase_zero cells key (suc fuel)))
      by_cell false e rest =
          let h = low (eqb-false c 0 e) in
          rw (link_kept (c % 64) h) (by_order (ltb (next % 64) (c % 64)) refl rest h)

module _ (w n : ℕ) (s : Small w) (few : n < 64) (cells : List ℕ) (long : length cells ≡ 128) (low : (h : ℕ) → h < 64 → Older n (get_or cells h 0)) where
  abbrev Bucket : ℕ
  Bucket = bucket_of (word_key w)

  low_bucket : Bucket < 64
  low_bucket = bucket_low (word_key w)

  abbrev Old : ℕ
  Old = get_or cells Bucket 0

  abbrev With : List ℕ
  With = set (set cells (64 + n) Old) Bucket (cell_of w n)

  long_with : length With ≡ 128
  long_with = length-set (set cells (64 + n) Old) Bucket (cell_of w n) ∙ length-set cells (64 + n) Old ∙ long

  head_is : get_or With Bucket 0 ≡ cell_of w n
  head_is = get_or-set_same (set cells (64 + n) Old) Bucket (cell_of w n) 0 (omega (arith, length-set cells (64 + n) Old, long, low_bucket))

  link_is : get_or With (64 + n) 0 ≡ Old
  link_is =
      get_or-set_other (set cells (64 + n) Old) Bucket (64 + n) (cell_of w n) 0 (λ e. omega (arith, low_bucket, e)) ∙ get_or-set_same cells (64 + n) Old 0 (omega (arith, long))

  low_with : (h : ℕ) → h < 64 → Older (suc n) (get_or With h 0)
  low_with h l = go (eqb h Bucket) refl
    where
      go : (t : Bool) → eqb h Bucket ≡ t → Older (suc n) (get_or With h 0)
      go true e = rw (eqb-true h Bucket e, head_is) (λ d. omega (arith, cell_order w s n few))
      go false e = rw (head_kept cells n Bucket Old (cell_of w n) low_bucket h l (eqb-false h Bucket e)) (λ d. omega (arith, low h l d))

  found_own : search With (word_key w) ≡ cell_of w n
  unfolding search
  found_own = rw head_is (chase_here With (word_key w) 63 (cell_of w n) (cell_key w s n few))

  next_is : get_or With (64 + cell_of w n % 64) 0 ≡ Old
  next_is = rw (cell_order w s n few) link_is

  module _ (key : ℕ) (other : word_key w ≡ key → ⊥) where
    not_here : cell_of w n / 4096 ≡ key → ⊥
    not_here e = other (sym (cell_key w s n few) ∙ e)

    -- Behind the new head comes the old one.
    past_head : (t : Bool) → eqb Old 0 ≡ t → chase 64 With key (cell_of w n) ≡ chase 64 cells key Old
    past_head true e = go (ltb 0 n) refl ∙ sym (rw (eqb-true Old 0 e) (chase_zero cells key 64))
      where
        go : (t : Bool) → ltb 0 n ≡ t → chase 64 With key (cell_of w n) ≡ 0
        go true p =
            chase_on With key 63 (cell_of w n) not_here (omega (arith, next_is, eqb-true Old 0 e, cell_order w s n few, ltb-true 0 n p))
            ∙ ap (chase 63 With key) (next_is ∙ eqb-true Old 0 e)
            ∙ chase_zero With key 63
        go false p = chase_ends With key 63 (cell_of w n) not_here (omega (arith, cell_order w s n few, ltb-false 0 n p))
    past_head false e =
        let older = low Bucket low_bucket in
        let h = older (eqb-false Old 0 e) in
        chase_on With key 63 (cell_of w n) not_here (omega (arith, next_is, h, cell_order w s n few))
        ∙ ap (chase 63 With key) next_is
        ∙ chase_kept cells n Bucket Old (cell_of w n) low_bucket key 63 Old older
        ∙ chase_more cells key 63 Old (omega (arith, h))

    found_other : search With key ≡ search cells key
    unfolding search
    found_other = go (eqb (bucket_of key) Bucket) refl
      where
        go : (t : Bool) → eqb (bucket_of key) Bucket ≡ t → chase 64 With key (get_or With (bucket_of key) 0) ≡ chase 64 cells key (get_or cells (bucket_of key) 0)
        go true e = rw (eqb-true (bucket_of key) Bucket e, head_is) (past_head (eqb Old 0) refl)
        go false e =
            rw (head_kept cells n Bucket Old (cell_of w n) low_bucket (bucket_of key) (bucket_low key) (eqb-false (bucket_of key) Bucket e))
            (chase_kept cells n Bucket Old (cell_of w n) low_bucket key 64 (get_or cells (bucket_of key) 0) (low (bucket_of key) (bucket_low key)))

-- ---- all words

-- The cell of the last of the first k words with a key; 0 if there is none.
unfoldable pub last_cell : (ℕ → ℕ) → ℕ → ℕ → ℕ
last_cell word zero key = 0
last_cell word (suc k) key = cond (eqb (word_key (word k)) key) (cell_of (word k) k) (last_cell word k key)

-- The cells after inserting the first k words into cleared cells.
abbrev pub index_after : (ℕ → ℕ) → ℕ → List ℕ
index_after word k = inserted_before word (replicate 128 0) k

record Searches (word : ℕ → ℕ) (k : ℕ) (cells : List ℕ) : Type 0 where
  pub long : length cells ≡ 128
  pub low : (h : ℕ) → h < 64 → Older k (get_or cells h 0)
  pub found : (key : ℕ) → search cells key ≡ last_cell word k key

module _ (word : ℕ → ℕ) where
  searches_none : Searches word 0 (replicate 128 0)
  unfolding last_cell
  searches_none =
      record {
        long = length-replicate {A = ℕ} 128 0;
        low = λ h l d. absurd (d (get_or-replicate 128 h 0 0 (omega arith)));
        found = λ key. search_empty (replicate 128 0) key (get_or-replicate 128 (bucket_of key) 0 0 (omega (arith, bucket_low key)));
      }

  searches_more : (k : ℕ) (cells : List ℕ) → k < 64 → Small (word k) → insertable (word k) cells ≡ true → Searches word k cells → Searches word (suc k) (inserted (word k) k cells)
  unfolding inserted linked last_cell
  searches_more k cells few s new st =
      subst (λ (t : Bool). Searches word (suc k) (cond t (With (word k) k s few cells st.long st.low) cells)) (sym new)
      record {
        long = long_with (word k) k s few cells st.long st.low;
        low = low_with (word k) k s few cells st.long st.low;
        found = λ key. go key (eqb (word_key (word k)) key) refl;
      }
    where
      go : (key : ℕ) (t : Bool) → eqb (word_key (word k)) key ≡ t
          → search (With (word k) k s few cells st.long st.low) key ≡ cond t (cell_of (word k) k) (last_cell word k key)
      go key true e = rw (← eqb-true (word_key (word k)) key e) (found_own (word k) k s few cells st.long st.low)
      go key false e = found_other (word k) k s few cells st.long st.low key (eqb-false (word_key (word k)) key e) ∙ st.found key

  searches : (k : ℕ) → k ≤ 64 → ((j : ℕ) → j < k → Small (word j)) → ((j : ℕ) → j < k → insertable (word j) (index_after word j) ≡ true) → Searches word k (index_after word k)
  unfolding inserted_before
  searches zero few small new = searches_none
  searches (suc k) few small new =
      searches_more k (index_after word k) few (small k (omega arith)) (new k (omega arith)) (searches k (omega arith) (λ j l. small j (omega arith)) (λ j l. new j (omega arith)))

  pub found_last : (k : ℕ) → k ≤ 64 → ((j : ℕ) → j < k → Small (word j)) → ((j : ℕ) → j < k → insertable (word j) (index_after word j) ≡ true)
      → (key : ℕ) → search (index_after word k) key ≡ last_cell word k key
  found_last k few small new = (searches k few small new).found
