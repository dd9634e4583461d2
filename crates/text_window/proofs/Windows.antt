-- Laws of the pieces of a text in a window.
use Prim.Native.Nat.{ℕ, suc, ◌+◌, ◌-◌, ◌^◌, ◌≤◌, ◌<◌, min}
use native.Mathlib.Omega.{arith}
use mathlib.Core.Path.{◌≡◌, refl, sym, ap, ◌∙◌, subst}
use mathlib.Core.Bool.{Bool, true, false}
use mathlib.Core.List.{List, [], ◌∷◌, ◌++◌, append-nil}
use lib.ListN.{length, take, drop, set, length-append, length-take, length-drop, drop_of_length-le}
use lib.Seq.{sets, length-sets, length-take-le, take-nil, drop-nil, set_out, take-append-le, take-append-add, drop-append-le, drop-append-add, take_all, take_at}
use lib.Dec.{leb}
use borrow.Author.Tests.{leb-true, leb-false}
use Rattle.octets_store.proofs.Sets.{sets_append}
use Rattle.text_window.specs.Window.{window, overlay, placed, Printed}

sets_nothing : (i : ℕ) (xs : List ℕ) → sets [] i xs ≡ []
sets_nothing i [] = refl
sets_nothing i (x ∷ xs) = sets_nothing (suc i) xs

sets_behind : (y i : ℕ) (d xs : List ℕ) → sets (y ∷ d) (suc i) xs ≡ y ∷ sets d i xs
sets_behind y i d [] = refl
sets_behind y i d (x ∷ xs) = sets_behind y (suc i) (set d i x) xs

-- A store from the first octet on.
sets_start : (d xs : List ℕ) → sets d 0 xs ≡ take (length d) xs ++ drop (length xs) d
sets_start [] [] = refl
sets_start [] (x ∷ xs) = sets_nothing 1 xs
sets_start (y ∷ d) [] = refl
sets_start (y ∷ d) (x ∷ xs) = sets_behind x 0 d xs ∙ ap (λ (l : List ℕ). x ∷ l) (sets_start d xs)

-- A whole text, from its first octet on, gives its window.
pub whole_window : (d : List ℕ) (from : ℕ) (text : List ℕ) → overlay d from 0 text ≡ window d from text
unfolding overlay window
whole_window d from text =
    let a : 0 - from ≡ 0 = omega arith in
    let b : from - 0 ≡ from = omega arith in
    rw (a, b) (sets_start d (drop from text) ∙ rw (length-drop from text))

overlay_append : (d : List ℕ) (from at : ℕ) (xs ys : List ℕ) → overlay (overlay d from at xs) from (at + length xs) ys ≡ overlay d from at (xs ++ ys)
unfolding overlay
overlay_append d from at xs ys = go (leb (from - at) (length xs)) refl
  where
    go : (t : Bool) → leb (from - at) (length xs) ≡ t
        → sets (sets d (at - from) (drop (from - at) xs)) (at + length xs - from) (drop (from - (at + length xs)) ys)
        ≡ sets d (at - from) (drop (from - at) (xs ++ ys))
    go true e =
        let h = leb-true (from - at) (length xs) e in
        let a : from - (at + length xs) ≡ 0 = omega arith in
        let l = length-drop (from - at) xs in
        let b : at + length xs - from ≡ at - from + length (drop (from - at) xs) = omega arith in
        rw (a, b, drop-append-le (from - at) xs ys h) (sym (sets_append d (at - from) (drop (from - at) xs) ys))
    go false e =
        let h = leb-false (from - at) (length xs) e in
        let a : at + length xs - from ≡ at - from = omega arith in
        let b : from - at ≡ length xs + (from - (at + length xs)) = omega arith in
        rw (a, drop_of_length-le xs {i = from - at} (omega arith)) (ap (sets d (at - from)) (sym (ap (λ (k : ℕ). drop k (xs ++ ys)) b ∙ drop-append-add xs ys (from - (at + length xs)))))

-- The octets of a piece that are printed.
placed_nothing : (at : ℕ) → placed at [] ≡ []
unfolding placed
placed_nothing at = take-nil {A = ℕ} (2 ^ 64 - 1 - at)

pub placed_whole : (at : ℕ) (xs : List ℕ) → at + length xs < 2 ^ 64 → placed at xs ≡ xs
unfolding placed
placed_whole at xs h = take_all (2 ^ 64 - 1 - at) xs (omega arith)

placed_append : (at : ℕ) (xs ys : List ℕ) → placed at (xs ++ ys) ≡ placed at xs ++ placed (at + length (placed at xs)) ys
unfolding placed
placed_append at xs ys = go (leb (length xs) (2 ^ 64 - 1 - at)) refl
  where
    go : (t : Bool) → leb (length xs) (2 ^ 64 - 1 - at) ≡ t
        → take (2 ^ 64 - 1 - at) (xs ++ ys) ≡ take (2 ^ 64 - 1 - at) xs ++ take (2 ^ 64 - 1 - (at + length (take (2 ^ 64 - 1 - at) xs))) ys
    go true e =
        let h = leb-true (length xs) (2 ^ 64 - 1 - at) e in
        let a : 2 ^ 64 - 1 - at ≡ length xs + (2 ^ 64 - 1 - (at + length xs)) = omega arith in
        rw (take_all (2 ^ 64 - 1 - at) xs h) (ap (λ (k : ℕ). take k (xs ++ ys)) a ∙ take-append-add xs ys (2 ^ 64 - 1 - (at + length xs)))
    go false e =
        let h = leb-false (length xs) (2 ^ 64 - 1 - at) e in
        let l = length-take-le (2 ^ 64 - 1 - at) xs (omega arith) in
        let a : 2 ^ 64 - 1 - (at + length (take (2 ^ 64 - 1 - at) xs)) ≡ 0 = omega arith in
        rw a (take-append-le (2 ^ 64 - 1 - at) xs ys (omega arith) ∙ sym (append-nil (take (2 ^ 64 - 1 - at) xs)))

-- The offset after a piece is the smaller of two numbers.
pub place_after : (at : ℕ) (xs : List ℕ) → at < 2 ^ 64 → at + length (placed at xs) ≡ min (at + length xs) (2 ^ 64 - 1)
unfolding placed
place_after at xs h = let l = length-take (2 ^ 64 - 1 - at) xs in omega arith

module _ (d : List ℕ) (from at : ℕ) where
  overlay_nothing : overlay d from at [] ≡ d
  unfolding overlay
  overlay_nothing = rw (drop-nil {A = ℕ} (from - at))

  pub printed_nothing : Printed d from at [] at d
  printed_nothing = let n = placed_nothing at in record { place = rw n (omega arith); buffer = rw n (sym overlay_nothing) }

  pub printed_length : (xs : List ℕ) (r : ℕ) (e : List ℕ) → Printed d from at xs r e → length e ≡ length d
  unfolding overlay
  printed_length xs r e p = ap length p.buffer ∙ length-sets d (at - from) (drop (from - at) (placed at xs))

  -- A piece that ends below 2 ^ 64 is printed completely.
  pub fits_printed : (xs : List ℕ) (r : ℕ) (e : List ℕ) → at + length xs < 2 ^ 64 → r ≡ at + length xs → e ≡ overlay d from at xs → Printed d from at xs r e
  fits_printed xs r e h p b = let w = placed_whole at xs h in record { place = rw w p; buffer = rw w b }

  pub printed_fits : (xs : List ℕ) (r : ℕ) (e : List ℕ) → at + length xs < 2 ^ 64 → Printed d from at xs r e → (r ≡ at + length xs) × (e ≡ overlay d from at xs)
  printed_fits xs r e h p = let w = placed_whole at xs h in (p.place ∙ rw w refl, p.buffer ∙ rw w refl)

  -- One octet: at the offset 2 ^ 64 - 1, before the window, beyond it, and in it.
  pub one_unplaced : (x : ℕ) → at ≡ 18446744073709551615 → Printed d from at (x ∷ []) at d
  unfolding placed
  one_unplaced x h =
      let k : 2 ^ 64 - 1 - at ≡ 0 = omega arith in
      record { place = rw k (omega arith); buffer = rw k (sym overlay_nothing) }

  pub one_before : (x : ℕ) → at < from → from < 2 ^ 64 → Printed d from at (x ∷ []) (at + 1) d
  unfolding overlay
  one_before x h k = fits_printed (x ∷ []) (at + 1) d (omega arith) refl (rw (drop_of_length-le (x ∷ []) {i = from - at} (omega arith)) refl)

  in_window : (x : ℕ) → from ≤ at → overlay d from at (x ∷ []) ≡ set d (at - from) x
  unfolding overlay
  in_window x h = let k : from - at ≡ 0 = omega arith in rw k

  module _ (x : ℕ) (h : from ≤ at) (below : at < 2 ^ 64) (more : at ≡ 18446744073709551615 → ⊥) where
    pub one_beyond : length d ≤ at - from → Printed d from at (x ∷ []) (at + 1) d
    one_beyond k = fits_printed (x ∷ []) (at + 1) d (omega arith) refl (sym (in_window x h ∙ set_out d (at - from) x k))

    pub one_inside : Printed d from at (x ∷ []) (at + 1) (set d (at - from) x)
    one_inside = fits_printed (x ∷ []) (at + 1) (set d (at - from) x) (omega arith) refl (sym (in_window x h))

-- A piece, and then the piece after it, are one piece.
pub then : {d e f : List ℕ} {from at m r : ℕ} {xs ys : List ℕ} → Printed d from at xs m e → Printed e from m ys r f → Printed d from at (xs ++ ys) r f
then {d} {e} {f} {from} {at} {m} {r} {xs} {ys} p q =
    let a = p.place in
    let l = length-append (placed at xs) (placed m ys) in
    let s : placed at (xs ++ ys) ≡ placed at xs ++ placed m ys = placed_append at xs ys ∙ rw a refl in
    let b = q.place in
    record {
      place = rw s (omega arith);
      buffer = q.buffer ∙ rw (p.buffer, s, a) (overlay_append d from at (placed at xs) (placed (at + length (placed at xs)) ys));
    }

pub same_place : {d e : List ℕ} {from at m : ℕ} {xs : List ℕ} (ys : List ℕ) → xs ≡ ys → Printed d from at xs m e → Printed d from at ys m e
same_place {d} {e} {from} {at} {m} ys q p = subst (λ (l : List ℕ). Printed d from at l m e) q p

pub one_is : {d e : List ℕ} {from at m x y : ℕ} → x ≡ y → Printed d from at (x ∷ []) m e → Printed d from at (y ∷ []) m e
one_is {d} {e} {from} {at} {m} {x} {y} q p = subst (λ (z : ℕ). Printed d from at (z ∷ []) m e) q p

-- A text that is printed from its first octet on gives its window.
pub whole_printed : {d e : List ℕ} {from r : ℕ} (text : List ℕ) → length text < 2 ^ 64 → Printed d from 0 text r e → (r ≡ length text) × (e ≡ window d from text)
whole_printed {d} {e} {from} {r} text h p =
    let q = printed_fits d from 0 text r e (omega arith) p in
    (q.0 ∙ omega arith, q.1 ∙ whole_window d from text)

-- The same for a text that equals it.
pub same_window : (d : List ℕ) (from : ℕ) {e : List ℕ} {r : ℕ} {text other : List ℕ} → text ≡ other → (r ≡ length text) × (e ≡ window d from text) → (r ≡ length other) × (e ≡ window d from other)
same_window d from {e} {r} {text} {other} q p = subst (λ (t : List ℕ). (r ≡ length t) × (e ≡ window d from t)) q p

-- The windows of a text, one after the other, are the text: a window that the text fills has its next octets, and the last window begins
-- with the remaining octets.
pub full_window : (d : List ℕ) (from : ℕ) (text : List ℕ) → from + length d ≤ length text → window d from text ≡ take (length d) (drop from text)
unfolding window
full_window d from text h =
    rw (drop_of_length-le d {i = length text - from} (omega arith)) (append-nil (take (length d) (drop from text)))

pub last_window : (d : List ℕ) (from : ℕ) (text : List ℕ) → length text ≤ from + length d → take (length text - from) (window d from text) ≡ drop from text
unfolding window
last_window d from text h =
    let l = length-drop from text in
    rw (take_all (length d) (drop from text) (omega arith)) (take_at (drop from text) (drop (length text - from) d) (length text - from) l)
