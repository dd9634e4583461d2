-- Laws of a run of stores, wherever it begins and ends.
use Prim.Native.Nat.{ℕ, suc, ◌+◌, ◌≤◌, ◌<◌}
use native.Mathlib.Nat.{add-zero, add-suc, suc-add}
use native.Mathlib.Omega.{arith}
use mathlib.Core.Path.{◌≡◌, refl, sym, ap, ◌∙◌}
use mathlib.Core.List.{List, [], ◌∷◌, ◌++◌}
use lib.ListN.{length, set, take, drop}
use lib.Seq.{sets, set_comm, set-set, take-set-le, take-add, drop_at, length-take-le}

-- Stores from one end on, then stores from where they end.
pub sets_append : (d : List ℕ) (i : ℕ) (xs ys : List ℕ) → sets d i (xs ++ ys) ≡ sets (sets d i xs) (i + length xs) ys
sets_append d i [] ys = rw (add-zero i)
sets_append d i (x ∷ xs) ys =
    sets_append (set d i x) (suc i) xs ys
    ∙ ap (λ (k : ℕ). sets (sets (set d i x) (suc i) xs) k ys) (suc-add i (length xs) ∙ sym (add-suc i (length xs)))

-- A store before a run of stores can come first or last.
pub set_before_sets : (d : List ℕ) (i j x : ℕ) (xs : List ℕ) → j < i → set (sets d i xs) j x ≡ sets (set d j x) i xs
set_before_sets d i j x [] h = refl
set_before_sets d i j x (y ∷ xs) h =
    set_before_sets (set d i y) (suc i) j x xs (omega arith)
    ∙ ap (λ (l : List ℕ). sets l (suc i) xs) (set_comm d i j y x (λ e. omega arith))

-- Stores before a run of stores can come first or last.
pub sets_before_sets : (d : List ℕ) (i j : ℕ) (ys xs : List ℕ) → j + length ys ≤ i → sets (sets d i xs) j ys ≡ sets (sets d j ys) i xs
sets_before_sets d i j [] xs h = refl
sets_before_sets d i j (y ∷ ys) xs h =
    ap (λ (l : List ℕ). sets l (suc j) ys) (set_before_sets d i j y xs (omega arith))
    ∙ sets_before_sets (set d j y) i (suc j) ys xs (omega arith)

-- Stores over shorter ones at the same place leave nothing of them.
pub sets_over : (d : List ℕ) (i : ℕ) (xs ys : List ℕ) → length xs ≤ length ys → sets (sets d i xs) i ys ≡ sets d i ys
sets_over d i [] ys h = refl
sets_over d i (x ∷ xs) [] h = absurd (omega arith)
sets_over d i (x ∷ xs) (y ∷ ys) h =
    ap (λ (l : List ℕ). sets l (suc i) ys) (set_before_sets (set d i x) (suc i) i y xs (omega arith) ∙ rw (set-set d i x y))
    ∙ sets_over (set d i y) (suc i) xs ys (omega arith)

-- The octets before a run of stores stay.
pub take_before_sets : (d : List ℕ) (i n : ℕ) (xs : List ℕ) → n ≤ i → take n (sets d i xs) ≡ take n d
take_before_sets d i n [] h = refl
take_before_sets d i n (x ∷ xs) h = take_before_sets (set d i x) (suc i) n xs (omega arith) ∙ take-set-le n d i x h

-- The same part of two lists whose fronts are the same.
pub same_part : (l m : List ℕ) (i n : ℕ) → i ≤ length l → i ≤ length m → take (i + n) l ≡ take (i + n) m → take n (drop i l) ≡ take n (drop i m)
same_part l m i n h k e = sym (part l h) ∙ ap (drop i) e ∙ part m k
  where
    part : (x : List ℕ) → i ≤ length x → drop i (take (i + n) x) ≡ take n (drop i x)
    part x b = rw (take-add i n x) (drop_at (take i x) (take n (drop i x)) i (length-take-le i x b))
