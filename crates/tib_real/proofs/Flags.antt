-- Laws of truth values.
use Rattle.std.proofs.Common.{◌≡◌, Bool, true, false, not, ◌&&◌, ◌||◌, T, refl}

pub and-false : (a : Bool) → (a && false) ≡ false
and-false true = refl
and-false false = refl

pub and_also : (a b : Bool) → b ≡ true → (a && b) ≡ a
and_also true b e = e
and_also false b e = refl

pub or-true : (a : Bool) → (a || true) ≡ true
or-true true = refl
or-true false = refl

pub or_left : (a b : Bool) → T a → T (a || b)
or_left true b t = tt
or_left false b t = absurd t

pub not-false : (t : Bool) → t ≡ false → T (not t)
not-false t e = rw e tt
