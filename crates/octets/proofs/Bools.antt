-- Laws of Boolean tests that this crate and its users share.
use mathlib.Core.Path.{◌≡◌, refl, sym, ◌∙◌}
use mathlib.Core.Bool.{Bool, true, false, not, ◌&&◌, ◌||◌, true≢false, false≢true}
use Prim.Native.Nat.{ℕ}
use lib.Dec.{eqb}
use borrow.Author.Tests.{eqb-true, eq-eqb}

-- A conjunction is true exactly if both sides are.
pub and_left : (a b : Bool) → a && b ≡ true → a ≡ true
and_left true b e = refl
and_left false b e = e

pub and_right : (a b : Bool) → a && b ≡ true → b ≡ true
and_right true b e = e
and_right false b e = absurd (false≢true e)

pub and_four : (a b c d : Bool) → a && b && c && d ≡ true → a ≡ true × b ≡ true × c ≡ true × d ≡ true
and_four a b c d e =
    let h = and_left (a && b && c) d e in
    let k = and_left (a && b) c h in
    (and_left a b k, and_right a b k, and_right (a && b) c h, and_right (a && b && c) d e)

pub and_both : (a b : Bool) → a ≡ true → b ≡ true → a && b ≡ true
and_both a b p q = rw (p, q) refl

-- The second side of a conjunction decides where the first is true; a first that is false decides.
pub second_decides : (p q r : Bool) → p ≡ true → p && q ≡ r → q ≡ r
second_decides p q r e f = rw e at f

pub first_decides : (p q r : Bool) → p ≡ false → p && q ≡ r → p ≡ r
first_decides p q r e f = e ∙ rw e at f

-- A second side that is true leaves the first.
pub true_second : (a b : Bool) → b ≡ true → a ≡ a && b
true_second true b e = sym e
true_second false b e = refl

-- A disjunction is false exactly if both sides are.
pub or_left : (a b : Bool) → a || b ≡ false → a ≡ false
or_left true b e = e
or_left false b e = refl

pub or_right : (a b : Bool) → a || b ≡ false → b ≡ false
or_right true b e = absurd (true≢false e)
or_right false b e = e

pub or_neither : (a b : Bool) → a ≡ false → b ≡ false → a || b ≡ false
or_neither a b p q = rw (p, q) refl

pub or_first : (a b : Bool) → a ≡ true → a || b ≡ true
or_first a b p = rw p refl

pub or_second : (a b : Bool) → b ≡ true → a || b ≡ true
or_second true b p = refl
or_second false b p = p

-- One test more that is to fail, taken with the tests before it or with those after it.
pub neither_moves : (a b c d : Bool) → not (a || b) && (c && not d) ≡ not a && c && not (b || d)
neither_moves true b c d = refl
neither_moves false true true d = refl
neither_moves false true false d = refl
neither_moves false false c d = refl

-- Two tests are equal if each implies the other.
pub same_test : (a b : Bool) → (a ≡ true → b ≡ true) → (b ≡ true → a ≡ true) → a ≡ b
same_test true true p q = refl
same_test true false p q = sym (p refl)
same_test false true p q = q refl
same_test false false p q = refl

-- Equality of numbers is symmetric.
pub eqb_swap : (m n : ℕ) → eqb m n ≡ eqb n m
eqb_swap m n =
    same_test (eqb m n) (eqb n m) (λ e. eq-eqb n m (sym (eqb-true m n e))) (λ e. eq-eqb m n (sym (eqb-true n m e)))
