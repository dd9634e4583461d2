-- Laws of searching a chain cell by cell.
use Prim.Native.Nat.{ℕ, zero, suc, ◌+◌, ◌*◌, ◌/◌, ◌%◌, ◌≤◌, ◌<◌, min}
use native.Mathlib.Omega.{arith}
use mathlib.Core.Path.{◌≡◌, refl, sym, ap, ◌∙◌}
use mathlib.Core.Bool.{Bool, true, false, cond}
use mathlib.Core.List.{List}
use lib.ListN.{get_or}
use lib.Dec.{eqb, ltb}
use borrow.Author.Tests.{ltb-true, ltb-false, lt-ltb, le-ltb, eq-eqb, ne_eqb}
use Rattle.table_index.specs.internal.Cells.{bucket_of, next_in, chase, search}

-- There are 64 buckets.
pub bucket_low : (key : ℕ) → bucket_of key < 64
unfolding bucket_of
bucket_low key = omega arith

-- ---- a chain

module _ (cells : List ℕ) (key : ℕ) where
  abbrev next : ℕ → ℕ
  next c = get_or cells (64 + c % 64) 0

  -- The cell 0 ends a chain.
  pub chase_zero : (fuel : ℕ) → chase fuel cells key 0 ≡ 0
  unfolding chase
  chase_zero zero = refl
  chase_zero (suc fuel) = rw (le-ltb (next 0 % 64) 0 (omega arith)) (go (eqb 0 key))
    where
      go : (t : Bool) → ◌≡◌ {A = ℕ} (cond t 0 0) 0
      go true = refl
      go false = refl

  module _ (fuel c : ℕ) where
    pub chase_here : c / 4096 ≡ key → chase (suc fuel) cells key c ≡ c
    unfolding chase
    chase_here e = rw (eq-eqb (c / 4096) key e) refl

    module _ (other : c / 4096 ≡ key → ⊥) where
      pub chase_ends : c % 64 ≤ next c % 64 → chase (suc fuel) cells key c ≡ 0
      unfolding chase
      chase_ends h = rw (ne_eqb (c / 4096) key other, le-ltb (next c % 64) (c % 64) h) refl

      pub chase_on : next c % 64 < c % 64 → chase (suc fuel) cells key c ≡ chase fuel cells key (next c)
      unfolding chase
      chase_on h = rw (ne_eqb (c / 4096) key other, lt-ltb (next c % 64) (c % 64) h) refl

  -- More fuel changes nothing if the fuel exceeds the order of the first cell.
  pub chase_more : (fuel c : ℕ) → c % 64 < fuel → chase fuel cells key c ≡ chase (suc fuel) cells key c
  unfolding chase
  chase_more zero c h = absurd (omega arith)
  chase_more (suc fuel) c h = go (ltb (next c % 64) (c % 64)) refl (chase_more fuel (next c))
    where
      go : (t : Bool) → ltb (next c % 64) (c % 64) ≡ t → (next c % 64 < fuel → chase fuel cells key (next c) ≡ chase (suc fuel) cells key (next c))
          → cond (eqb (c / 4096) key) c (cond t (chase fuel cells key (next c)) 0) ≡ cond (eqb (c / 4096) key) c (cond t (chase (suc fuel) cells key (next c)) 0)
      go true e more = rw (more (omega (arith, ltb-true (next c % 64) (c % 64) e))) refl
      go false e more = refl

  -- From one cell to the next.
  pub chase_next : (c : ℕ) → (c / 4096 ≡ key → ⊥) → chase 64 cells key c ≡ chase 64 cells key (next_in cells c)
  unfolding next_in
  chase_next c d = go (ltb (next c % 64) (c % 64)) refl
    where
      go : (t : Bool) → ltb (next c % 64) (c % 64) ≡ t → chase 64 cells key c ≡ chase 64 cells key (cond t (next c) 0)
      go true e = rw (chase_on 63 c d (ltb-true (next c % 64) (c % 64) e)) (chase_more 63 (next c) (omega (arith, ltb-true (next c % 64) (c % 64) e)))
      go false e = chase_ends 63 c d (ltb-false (next c % 64) (c % 64) e) ∙ sym (chase_zero 64)

-- A search follows the chain that begins with the head of the key's bucket,
pub search_from : (cells : List ℕ) (key : ℕ) {first : ℕ} → first ≡ get_or cells (bucket_of key) 0 → search cells key ≡ chase 64 cells key first
unfolding search
search_from cells key e = ap (chase 64 cells key) (sym e)

-- and an empty bucket has no key.
pub search_empty : (cells : List ℕ) (key : ℕ) → get_or cells (bucket_of key) 0 ≡ 0 → search cells key ≡ 0
search_empty cells key e = search_from cells key (sym e) ∙ chase_zero cells key 64

-- ---- the next cell

-- The measure of the loops over a chain: twice the order, and one more for a cell that is not 0, falls in each iteration.
pub next_less : (cells : List ℕ) (c n : ℕ) → n ≡ next_in cells c → (c ≡ 0 → ⊥) → n % 64 * 2 + min n 1 < c % 64 * 2 + min c 1
unfolding next_in
next_less cells c n e d = go (ltb (get_or cells (64 + c % 64) 0 % 64) (c % 64)) refl e
  where
    go : (t : Bool) → ltb (get_or cells (64 + c % 64) 0 % 64) (c % 64) ≡ t → n ≡ cond t (get_or cells (64 + c % 64) 0) 0 → n % 64 * 2 + min n 1 < c % 64 * 2 + min c 1
    go true l q = let h = ltb-true (get_or cells (64 + c % 64) 0 % 64) (c % 64) l in rw q (omega (arith, h, d))
    go false l q = rw q (omega (arith, d))
