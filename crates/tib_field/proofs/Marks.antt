-- Laws of the mark at the front of a header.
use Prim.Native.Nat.{ℕ}
use native.Mathlib.Omega.{arith}
use mathlib.Core.Path.{◌≡◌, refl, ap₂}
use mathlib.Core.Bool.{Bool, true, false, ◌&&◌}
use mathlib.Core.List.{List, [], ◌∷◌, ◌++◌}
use lib.Dec.{eqb}
use lib.ListN.{length, take, drop}
use lib.Pointwise.{pointwise}
use borrow.Author.Tests.{eq-eqb, eqb-true}
use Rattle.octets.proofs.Bools.{eqb_swap}
use Rattle.tib_field.specs.Mark.{begins}

-- Octets that begin with a mark are the mark and what follows it.
pub mark_begins : (mark rest : List ℕ) → begins mark (mark ++ rest) ≡ true
unfolding begins
mark_begins [] rest = refl
mark_begins (x ∷ mark) rest = rw (eq-eqb x x refl, mark_begins mark rest)

pub begins_mark : (mark s : List ℕ) → begins mark s ≡ true → s ≡ mark ++ drop (length mark) s
unfolding begins
begins_mark [] s e = refl
begins_mark (x ∷ mark) [] e = let z : ◌≡◌ {A = ℕ} 0 1 = cc in absurd (omega arith)
begins_mark (x ∷ mark) (y ∷ s) e = go (eqb y x) refl (begins_mark mark s) e
  where
    go : (t : Bool) → eqb y x ≡ t → (begins mark s ≡ true → s ≡ mark ++ drop (length mark) s) → (t && begins mark s) ≡ true
        → y ∷ s ≡ x ∷ (mark ++ drop (length mark) s)
    go true f later g = ap₂ (λ (a : ℕ) (r : List ℕ). a ∷ r) (eqb-true y x f) (later g)
    go false f later g = let z : ◌≡◌ {A = ℕ} 0 1 = cc in absurd (omega arith)

-- The test of the library.
pub starts_begins : (mark s : List ℕ) → pointwise eqb mark (take (length mark) s) ≡ begins mark s
unfolding begins
starts_begins [] s = refl
starts_begins (x ∷ mark) [] = refl
starts_begins (x ∷ mark) (y ∷ s) = ap₂ ◌&&◌ (eqb_swap x y) (starts_begins mark s)
