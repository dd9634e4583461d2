-- Laws of repeated pairs.
use Prim.Native.Nat.{ℕ, zero, suc, ◌<◌}
use native.Mathlib.Omega.{arith}
use mathlib.Core.Path.{◌≡◌, refl, sym, ap, ◌∙◌}
use mathlib.Core.Bool.{Bool, true, false, not, ◌&&◌, ◌||◌, or_assoc, or-false}
use mathlib.Core.List.{List, [], ◌∷◌, ◌++◌}
use lib.ListN.{length, get_or}
use lib.Dec.{eqb}
use borrow.Author.Tests.{eq-eqb, not-true}
use Rattle.table.specs.Load.{pair, seen}
use Rattle.table.specs.Repeat.{distinct}
use Rattle.octets.proofs.Bools.{and_left, and_right, or_first, or_second, eqb_swap, neither_moves}

-- ---- a pair that is seen

pub seen_append : (p : ℕ) (a b : List ℕ) → seen p (a ++ b) ≡ seen p a || seen p b
unfolding seen
seen_append p [] b = refl
seen_append p (w ∷ a) b = ap (λ (t : Bool). eqb (pair w) p || t) (seen_append p a b) ∙ sym (or_assoc (eqb (pair w) p) (seen p a) (seen p b))

pub seen_one : (p w : ℕ) → seen p (w ∷ []) ≡ eqb (pair w) p
unfolding seen
seen_one p w = or-false (eqb (pair w) p)

pub seen_at : (p : ℕ) (ws : List ℕ) (k : ℕ) → k < length ws → pair (get_or ws k 0) ≡ p → seen p ws ≡ true
unfolding seen
seen_at p [] k h e = absurd (omega arith)
seen_at p (w ∷ ws) zero h e = or_first (eqb (pair w) p) (seen p ws) (eq-eqb (pair w) p e)
seen_at p (w ∷ ws) (suc k) h e = or_second (eqb (pair w) p) (seen p ws) (seen_at p ws k (omega arith) e)

-- ---- no pair twice

-- One word more: its pair must not be seen before.
distinct_more : (ws : List ℕ) (w : ℕ) → distinct (ws ++ (w ∷ [])) ≡ distinct ws && not (seen (pair w) ws)
unfolding distinct seen
distinct_more [] w = refl
distinct_more (x ∷ ws) w =
    rw (seen_append (pair x) ws (w ∷ []), seen_one (pair x) w, eqb_swap (pair w) (pair x), distinct_more ws w)
    (neither_moves (seen (pair x) ws) (eqb (pair x) (pair w)) (distinct ws) (seen (pair w) ws))

pub distinct_snoc : (ws : List ℕ) (w : ℕ) → distinct ws ≡ true → seen (pair w) ws ≡ false → distinct (ws ++ (w ∷ [])) ≡ true
distinct_snoc ws w e h = distinct_more ws w ∙ rw (e, h) refl

module _ (ws : List ℕ) (w : ℕ) (e : distinct (ws ++ (w ∷ [])) ≡ true) where
  both : distinct ws && not (seen (pair w) ws) ≡ true
  both = sym (distinct_more ws w) ∙ e

  pub distinct_before : distinct ws ≡ true
  distinct_before = and_left (distinct ws) (not (seen (pair w) ws)) both

  pub distinct_last : seen (pair w) ws ≡ false
  distinct_last = not-true (seen (pair w) ws) (and_right (distinct ws) (not (seen (pair w) ws)) both)
