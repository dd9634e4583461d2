-- What holds of a choice between two values, what its value tells of the test, and two tests together.
use Prim.Native.Nat.{ℕ}
use native.Mathlib.Omega.{arith}
use mathlib.Core.Path.{◌≡◌, refl}
use mathlib.Core.Bool.{Bool, true, false, cond, ◌&&◌}

-- What holds of both holds of either.
pub either : {A : Type 0} (P : A → Type 0) (t : Bool) (a b : A) → P a → P b → P (cond t a b)
either P true a b p q = p
either P false a b p q = q

-- Where a choice did not come to one of its values, it came to the other, and the test was so.
pub passes : {A : Type 0} (q : A) (t : Bool) (p r : A) → (r ≡ q → ⊥) → cond t p r ≡ q → (t ≡ true) × (p ≡ q)
passes q true p r n e = (refl, e)
passes q false p r n e = absurd (n e)

pub fails : {A : Type 0} (q : A) (t : Bool) (r p : A) → (r ≡ q → ⊥) → cond t r p ≡ q → (t ≡ false) × (p ≡ q)
fails q true r p n e = absurd (n e)
fails q false r p n e = (refl, e)

pub both : (a b : Bool) → (a && b) ≡ true → (a ≡ true) × (b ≡ true)
both true b e = (refl, e)
both false b e = let z : ◌≡◌ {A = ℕ} 0 1 = cc in absurd (omega arith)
