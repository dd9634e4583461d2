-- Laws of a buffer after octets are stored into it. Those of a store that may not fit ask nothing; the others ask that it fits.
use Prim.Native.Nat.{ℕ, ◌+◌, ◌≤◌, ◌<◌}
use native.Mathlib.Omega.{arith}
use mathlib.Core.Path.{◌≡◌, refl, sym, ap, ◌∙◌}
use mathlib.Core.Bool.{Bool, true, false, cond}
use mathlib.Core.List.{List, [], ◌∷◌, ◌++◌, append_assoc}
use lib.ListN.{length, set, take, drop, length-append}
use lib.Seq.{sets, length-sets, sets-eq, take_at, drop_at, drop-drop, length-take-le}
use lib.Dec.{leb}
use borrow.Author.Tests.{le-leb, lt-leb}
use borrow.Rule.Slice.PartMut.{put_mid}
use Rattle.octets_store.specs.Store.{stored}
use Rattle.octets_store.proofs.Sets.{sets_append, sets_before_sets, sets_over, take_before_sets}

pub stored_fits : (d : List ℕ) (at : ℕ) (xs : List ℕ) → at + length xs ≤ length d → stored d at xs ≡ sets d at xs
unfolding stored
stored_fits d at xs h = rw (le-leb (at + length xs) (length d) h)

pub stored_too_long : (d : List ℕ) (at : ℕ) (xs : List ℕ) → length d < at + length xs → stored d at xs ≡ d
unfolding stored
stored_too_long d at xs h = rw (lt-leb (at + length xs) (length d) h)

pub stored_nothing : (d : List ℕ) (at : ℕ) → stored d at [] ≡ d
unfolding stored
stored_nothing d at = go (leb (at + 0) (length d))
  where
    go : (t : Bool) → cond t d d ≡ d
    go true = refl
    go false = refl

pub length_stored : (d : List ℕ) (at : ℕ) (xs : List ℕ) → length (stored d at xs) ≡ length d
unfolding stored
length_stored d at xs = go (leb (at + length xs) (length d))
  where
    go : (t : Bool) → length (cond t (sets d at xs) d) ≡ length d
    go true = length-sets d at xs
    go false = refl

-- The buffer in three parts: what stood before, what is stored, what stood after.
pub stored_parts : (d : List ℕ) (at : ℕ) (xs : List ℕ) → at + length xs ≤ length d
    → stored d at xs ≡ take at d ++ (xs ++ drop (at + length xs) d)
stored_parts d at xs h =
    stored_fits d at xs h ∙ sets-eq xs d at h ∙ append_assoc (take at d) xs (drop (at + length xs) d)

-- What a write of xs over the n octets of d from `at` on leaves.
pub put_stored : (d : List ℕ) (at n : ℕ) (xs ys : List ℕ) → at + length xs ≤ length d → at + length xs ≡ at + n → ys ≡ xs → put_mid at n d ys ≡ stored d at xs
put_stored d at n xs ys h k e = rw (e, stored_parts d at xs h, k, drop-drop n at d) refl

-- Two stores of which the second begins where the first ends.
pub stored_after : (d : List ℕ) (at : ℕ) (xs ys : List ℕ) → at + length xs + length ys ≤ length d
    → stored (stored d at xs) (at + length xs) ys ≡ stored d at (xs ++ ys)
stored_after d at xs ys h =
    let e = length_stored d at xs in
    let k : at + length (xs ++ ys) ≤ length d = rw (length-append xs ys) (omega arith) in
    stored_fits (stored d at xs) (at + length xs) ys (omega arith)
    ∙ rw (stored_fits d at xs (omega arith), stored_fits d at (xs ++ ys) k) (sym (sets_append d at xs ys))

-- A store of one octet, and two stores after it that each begin where the last one ends.
pub stored_three : (d : List ℕ) (at x n : ℕ) (xs ys : List ℕ) → n ≡ length xs → at + 1 + n + length ys ≤ length d
    → stored (stored (set d at x) (at + 1) xs) (at + 1 + n) ys ≡ stored d at (x ∷ xs ++ ys)
stored_three d at x n xs ys e h =
    let one : stored d at (x ∷ []) ≡ set d at x = stored_fits d at (x ∷ []) (omega arith) in
    let two : stored (stored d at (x ∷ [])) (at + 1) xs ≡ stored d at (x ∷ xs) = stored_after d at (x ∷ []) xs (omega arith) in
    let l : at + 1 + n ≡ at + length (x ∷ xs) = omega arith in
    rw (← one, two, l) (stored_after d at (x ∷ xs) ys (omega arith))

-- Two stores of which the second ends where the first begins.
pub stored_before : (d : List ℕ) (at : ℕ) (xs ys : List ℕ) → at + length ys + length xs ≤ length d
    → stored (stored d (at + length ys) xs) at ys ≡ stored d at (ys ++ xs)
stored_before d at xs ys h =
    let e = length_stored d (at + length ys) xs in
    let k : at + length (ys ++ xs) ≤ length d = rw (length-append ys xs) (omega arith) in
    stored_fits (stored d (at + length ys) xs) at ys (omega arith)
    ∙ rw (stored_fits d (at + length ys) xs h, stored_fits d at (ys ++ xs) k)
    (sets_before_sets d (at + length ys) at ys xs (omega arith) ∙ sym (sets_append d at ys xs))

-- A store over a shorter one at the same place.
pub stored_over : (d : List ℕ) (at : ℕ) (xs ys : List ℕ) → length xs ≤ length ys → at + length ys ≤ length d
    → stored (stored d at xs) at ys ≡ stored d at ys
stored_over d at xs ys k h = let e = length_stored d at xs in grind (arith, stored_fits, sets_over)

-- The octets before a store stay.
pub take_before_stored : (d : List ℕ) (at n : ℕ) (xs : List ℕ) → n ≤ at → take n (stored d at xs) ≡ take n d
unfolding stored
take_before_stored d at n xs h = go (leb (at + length xs) (length d))
  where
    go : (t : Bool) → take n (cond t (sets d at xs) d) ≡ take n d
    go true = take_before_sets d at n xs h
    go false = refl

module _ (d : List ℕ) (at : ℕ) (xs : List ℕ) (h : at + length xs ≤ length d) where
  before_length : length (take at d) ≡ at
  before_length = length-take-le at d (omega arith)

  through_length : length (take at d ++ xs) ≡ at + length xs
  through_length = rw (length-append (take at d) xs, before_length)

  -- The octets up to the end of a store.
  pub take_stored : take (at + length xs) (stored d at xs) ≡ take at d ++ xs
  take_stored =
      ap (take (at + length xs)) (stored_parts d at xs h ∙ sym (append_assoc (take at d) xs (drop (at + length xs) d)))
      ∙ take_at (take at d ++ xs) (drop (at + length xs) d) (at + length xs) through_length

  -- The octets from the start of a store on.
  pub drop_stored : drop at (stored d at xs) ≡ xs ++ drop (at + length xs) d
  drop_stored =
      ap (drop at) (stored_parts d at xs h) ∙ drop_at (take at d) (xs ++ drop (at + length xs) d) at before_length

  -- The octets of a store.
  pub part_stored : take (length xs) (drop at (stored d at xs)) ≡ xs
  part_stored = rw drop_stored (take_at xs (drop (at + length xs) d) (length xs) refl)
