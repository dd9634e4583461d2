-- The test whether two lists are the same.
use Prim.Native.Nat.{ℕ}
use mathlib.Core.Path.{◌≡◌, refl, ap, ap₂, subst}
use mathlib.Core.Bool.{true, false≢true}
use mathlib.Core.List.{List, [], ◌∷◌}
use mathlib.Core.Logic.{◌↔◌}
use lib.ListN.{length}
use lib.Dec.{eqb}
use borrow.Author.Tests.{eqb-true, eq-eqb}
use Rattle.octets.specs.NoShorter.{NoShorter}
use Rattle.octets.specs.Short.{same}
use Rattle.octets.proofs.Bools.{and_left, and_right, same_test}

pub same_self : (s : List ℕ) → same s s ≡ true
unfolding same
same_self [] = refl
same_self (x ∷ s) = rw (eq-eqb x x refl, same_self s) refl

pub same_true : (s t : List ℕ) → same s t ≡ true → s ≡ t
unfolding same
same_true [] [] e = refl
same_true [] (y ∷ t) e = absurd (false≢true e)
same_true (x ∷ s) [] e = absurd (false≢true e)
same_true (x ∷ s) (y ∷ t) e =
    ap₂ (λ (a : ℕ) (r : List ℕ). a ∷ r) (eqb-true x y (and_left (eqb x y) (same s t) e)) (same_true s t (and_right (eqb x y) (same s t) e))

pub same_exactly : (s t : List ℕ) → (same s t ≡ true) ↔ (s ≡ t)
same_exactly s t = (same_true s t, λ e. subst (λ (x : List ℕ). same s x ≡ true) e (same_self s))

-- Octets that are no shorter than others are the same exactly if they are as many.
pub same_by_length : (l s : List ℕ) → NoShorter l s → same l s ≡ eqb (length l) (length s)
same_by_length l s n =
    same_test (same l s) (eqb (length l) (length s)) (λ e. eq-eqb (length l) (length s) (ap length (same_true l s e)))
    (λ e. (same_exactly l s).1 (n.same (eqb-true (length l) (length s) e)))
