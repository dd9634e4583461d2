-- Sizes above 2 ^ 63 count as 2 ^ 63 + 1, and no answer tells them apart.
use Prim.Native.Nat.{ℕ, ◌+◌, ◌^◌, ◌≤◌, ◌<◌}
use native.Mathlib.Omega.{arith}
use mathlib.Core.Path.{◌≡◌, refl}
use mathlib.Core.Bool.{Bool, true, false}
use lib.Dec.{leb}
use borrow.Author.Tests.{leb-true, leb-false, lt-leb, le-ltb}
use Rattle.tib_decimals.specs.InDecimals.{in_range, answer}
use Rattle.tib_decimals.specs.internal.Sizes.{capped}

pub not_capped : (n : ℕ) → n ≤ 2 ^ 63 → n ≡ capped n
unfolding capped
not_capped n h = omega arith

pub is_capped : (n : ℕ) → 2 ^ 63 < n → 2 ^ 63 + 1 ≡ capped n
unfolding capped
is_capped n h = omega arith

pub out_of_range : (minus : Bool) (n : ℕ) → 2 ^ 63 < n → in_range minus n ≡ false
unfolding in_range
out_of_range true n h = lt-leb n (2 ^ 63) h
out_of_range false n h = le-ltb n (2 ^ 63) (omega arith)

pub capped_answer : (minus : Bool) (n : ℕ) → answer minus (capped n) ≡ answer minus n
unfolding answer
capped_answer minus n = go (leb n (2 ^ 63)) refl
  where
    go : (t : Bool) → leb n (2 ^ 63) ≡ t → answer minus (capped n) ≡ answer minus n
    go true e = rw (← not_capped n (leb-true n (2 ^ 63) e))
    go false e =
        let h = leb-false n (2 ^ 63) e in
        rw (← is_capped n h, out_of_range minus (2 ^ 63 + 1) (omega arith), out_of_range minus n h)
