-- Laws of the room for octets in a buffer.
use Prim.Native.Nat.{ℕ, ◌+◌, ◌-◌, ◌≤◌, ◌<◌}
use native.Mathlib.Omega.{arith}
use mathlib.Core.Path.{◌≡◌, refl, sym, ◌∙◌}
use mathlib.Core.Bool.{Bool, true, false}
use lib.Dec.{leb}
use borrow.Author.Tests.{leb-true, leb-false, le-leb, lt-leb}

-- n octets fit after `at` exactly if the sum is at most the length.
pub fits_after : (len at n : ℕ) → at ≤ len → leb n (len - at) ≡ leb (at + n) len
fits_after len at n h = go (leb n (len - at)) refl
  where
    go : (t : Bool) → leb n (len - at) ≡ t → t ≡ leb (at + n) len
    go true e = let k = leb-true n (len - at) e in sym (le-leb (at + n) len (omega arith))
    go false e = let k = leb-false n (len - at) e in sym (lt-leb (at + n) len (omega arith))

-- What `has_room` returns decides whether the octets fit.
pub room : (t : Bool) (at n len : ℕ) → t ≡ leb (at + n) len → t ≡ true → at + n ≤ len
room t at n len e f = leb-true (at + n) len (sym e ∙ f)

pub no_room_lem : (t : Bool) (at n len : ℕ) → t ≡ leb (at + n) len → t ≡ false → len < at + n
no_room_lem t at n len e f = leb-false (at + n) len (sym e ∙ f)
