-- One more mark and one more message number at the end of those in use.
use Prim.Native.Nat.{ℕ, ◌≤◌}
use native.Mathlib.Omega.{arith}
use mathlib.Core.Path.{◌≡◌, refl}
use mathlib.Core.Bool.{true, ◌&&◌}
use mathlib.Core.List.{List, [], ◌∷◌, ◌++◌}
use lib.Dec.{leb}
use borrow.Author.Tests.{le-leb, leb-true}
use Rattle.octets.proofs.Bools.{and_left, and_right, and_both}
use Rattle.writer_state.specs.Sound.{falling, small}

-- Falling marks still fall with one more mark at their end, and they lie above every lower offset.
pub falling_last : (low last high : ℕ) (ms : List ℕ) → low ≤ last → last ≤ high → falling last high ms ≡ true
    → falling low high (ms ++ (last ∷ [])) ≡ true
unfolding falling
falling_last low last high [] h k e = rw (le-leb low last h, le-leb last high k) refl
falling_last low last high (m ∷ ms) h k e =
    let p = leb last m in
    let q = leb m high in
    let r = falling last m ms in
    let x = and_left p q (and_left (p && q) r e) in
    let y = and_right p q (and_left (p && q) r e) in
    let z = leb-true last m x in
    and_both (leb low m && q) (falling low m (ms ++ (last ∷ []))) (and_both (leb low m) q (le-leb low m (omega arith)) y)
    (falling_last low last m ms h z (and_right (p && q) r e))

pub small_last : (n : ℕ) (ns : List ℕ) → n ≤ 15 → small ns ≡ true → small (ns ++ (n ∷ [])) ≡ true
unfolding small
small_last n [] h e = rw (le-leb n 15 h) refl
small_last n (m ∷ ns) h e =
    and_both (leb m 15) (small (ns ++ (n ∷ []))) (and_left (leb m 15) (small ns) e) (small_last n ns h (and_right (leb m 15) (small ns) e))
