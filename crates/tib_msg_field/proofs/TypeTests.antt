-- The tests of a type octet and of a size, as the code does them.
use Prim.Native.Nat.{ℕ, ◌+◌, ◌*◌, ◌/◌, ◌%◌, ◌≤◌, ◌<◌}
use native.Mathlib.Omega.{arith}
use mathlib.Core.Path.{◌≡◌, refl}
use mathlib.Core.Bool.{Bool, true, false, ◌&&◌, ◌||◌, not}
use lib.Dec.{eqb, leb}
use borrow.Author.Tests.{lt-leb, le-leb, eqb-true, eqb-false, eq-eqb, ne_eqb}
use Rattle.tib_msg_field.specs.Layout.{kind, hinted}
use Rattle.tib_msg_field.specs.Reading.{type_allowed}

-- The low six bits of an octet are the type and the two unused bits.
low_parts : (c : ℕ) → c % 64 ≡ c / 16 % 4 * 16 + c % 16
low_parts c = omega arith

or-true : (t : Bool) → (t || true) ≡ true
or-true true = refl
or-true false = refl

or-false : (t : Bool) → (t || false) ≡ t
or-false true = refl
or-false false = refl

module _ (c m : ℕ) (e : m ≡ c % 64) where
  pub type_over : 10 < m → false ≡ type_allowed c
  unfolding type_allowed kind
  type_over h = go (eqb (c / 16 % 4) 0) refl
    where
      go : (t : Bool) → eqb (c / 16 % 4) 0 ≡ t → false ≡ (t && (leb (c % 16) 10 && (hinted c || not (eqb (c % 16) 8 || eqb (c % 16) 9))))
      go true f = let z = eqb-true (c / 16 % 4) 0 f in let p = low_parts c in rw (lt-leb (c % 16) 10 (omega arith))
      go false f = refl

  module _ (h : m ≤ 10) where
    clear : c / 16 % 4 ≡ 0
    clear = let p = low_parts c in omega arith

    known : kind c ≡ m
    unfolding kind
    known = let p = low_parts c in let q = clear in omega arith

    tested : type_allowed c ≡ (hinted c || not (eqb m 8 || eqb m 9))
    unfolding type_allowed
    tested = rw (eq-eqb (c / 16 % 4) 0 clear, known, le-leb m 10 h)

    pub type_plain : (m ≡ 8 → ⊥) → (m ≡ 9 → ⊥) → true ≡ type_allowed c
    type_plain a b = rw (tested, ne_eqb m 8 a, ne_eqb m 9 b, or-true (hinted c))

    pub type_hinted : 8 ≤ m → (m ≡ 10 → ⊥) → hinted c ≡ type_allowed c
    type_hinted a b = go (eqb m 8) refl
      where
        go : (t : Bool) → eqb m 8 ≡ t → hinted c ≡ type_allowed c
        go true f = rw (tested, f, or-false (hinted c))
        go false f = let z = eqb-false m 8 f in rw (tested, f, eq-eqb m 9 (omega arith), or-false (hinted c))
