-- Words are all 0 if the disjunction of their bits is.
use Prim.Native.Nat.{ℕ, ◌+◌, ◌≤◌}
use native.Mathlib.Omega.{arith}
use mathlib.Core.Path.{◌≡◌, refl, sym, ◌∙◌}
use mathlib.Core.Bool.{Bool, true, false, ◌&&◌, and-true, and_assoc}
use mathlib.Core.List.{List, [], ◌∷◌}
use Rattle.std.specs.List.{fold}
use lib.Dec.{eqb}
use lib.Bits.{bit_and, bit_or, or_add_and, and_le_l, and_le_r}
use borrow.Author.Tests.{eqb-true, eqb-false, eq-eqb, ne_eqb}
use Rattle.table.specs.Valid.{all_zero}

-- Two numbers are 0 if the disjunction of their bits is.
or_zero : (a b : ℕ) → eqb (bit_or a b) 0 ≡ eqb a 0 && eqb b 0
or_zero a b = go (eqb a 0) refl (eqb b 0) refl
  where
    sum : bit_or a b + bit_and a b ≡ a + b
    sum = or_add_and a b

    first : bit_and a b ≤ a
    first = and_le_l a b

    second : bit_and a b ≤ b
    second = and_le_r a b

    go : (s : Bool) → eqb a 0 ≡ s → (t : Bool) → eqb b 0 ≡ t → eqb (bit_or a b) 0 ≡ s && t
    go true p true q = eq-eqb (bit_or a b) 0 (omega (arith, sum, eqb-true a 0 p, eqb-true b 0 q))
    go true p false q = ne_eqb (bit_or a b) 0 (λ e. eqb-false b 0 q (omega (arith, sum, first)))
    go false p t q = ne_eqb (bit_or a b) 0 (λ e. eqb-false a 0 p (omega (arith, sum, second)))

-- Words are all 0 if the disjunction of their bits is.
pub joined_zero : (ws : List ℕ) (bits : ℕ) → eqb (fold (λ b w. bit_or b w) bits ws) 0 ≡ eqb bits 0 && all_zero ws
unfolding all_zero
joined_zero [] bits = sym (and-true (eqb bits 0))
joined_zero (w ∷ ws) bits =
    joined_zero ws (bit_or bits w) ∙ rw (or_zero bits w) (and_assoc (eqb bits 0) (eqb w 0) (all_zero ws))
