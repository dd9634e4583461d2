-- Laws of the text of numbers.
use Prim.Native.Nat.{ℕ, zero, suc, ◌+◌, ◌-◌, ◌/◌, ◌%◌, ◌≤◌, ◌<◌}
use native.Mathlib.Numerals.{add-one}
use native.Mathlib.Omega.{arith}
use mathlib.Core.Path.{◌≡◌, refl}
use mathlib.Core.Bool.{Bool, true, false, cond}
use mathlib.Core.List.{[], ◌∷◌, ◌++◌}
use lib.ListN.{length, length-append}
use lib.IntN.{ℤ, pos, negsuc}
use lib.Dec.{ltb}
use borrow.Author.Tests.{lt-ltb, le-ltb}
use Rattle.text_window.specs.Digits.{glyph, decimal_within, decimal, signed_decimal}

pub within_none : (most n : ℕ) → most ≡ 0 → [] ≡ decimal_within most n
unfolding decimal_within
within_none most n e = rw e

pub within_one : (most n : ℕ) → 1 ≤ most → n < 10 → glyph n ∷ [] ≡ decimal_within most n
unfolding decimal_within
within_one zero n h k = absurd (omega arith)
within_one (suc most) n h k = rw (lt-ltb n 10 k)

pub within_more : (most n : ℕ) → 1 ≤ most → 10 ≤ n → decimal_within (most - 1) (n / 10) ++ (glyph (n % 10) ∷ []) ≡ decimal_within most n
unfolding decimal_within
within_more zero n h k = absurd (omega arith)
within_more (suc most) n h k = let e : suc most - 1 ≡ most = omega arith in rw (le-ltb n 10 k, e)

-- `decimal_within most` gives at most `most` digits.
pub within_length : (most n : ℕ) → length (decimal_within most n) ≤ most
unfolding decimal_within
within_length zero n = omega arith
within_length (suc most) n = go (ltb n 10) (within_length most (n / 10))
  where
    go : (t : Bool) → length (decimal_within most (n / 10)) ≤ most
        → length (cond t (glyph n ∷ []) (decimal_within most (n / 10) ++ (glyph (n % 10) ∷ []))) ≤ suc most
    go true h = omega arith
    go false h = simp length-append (omega arith)

pub decimal_length : (n : ℕ) → length (decimal n) ≤ 20
unfolding decimal
decimal_length n = within_length 20 n

pub signed_length : (z : ℤ) → length (signed_decimal z) ≤ 21
unfolding signed_decimal
signed_length (pos n) = let h = decimal_length n in omega arith
signed_length (negsuc k) = let h = decimal_length (suc k) in omega arith

-- A negative number.
pub below_zero_text : (k : ℕ) → (0x2d ∷ []) ++ decimal (k + 1) ≡ signed_decimal (negsuc k)
unfolding signed_decimal
below_zero_text k = rw (add-one k) refl

pub from_zero_text : (z : ℤ) (n : ℕ) → z ≡ pos n → signed_decimal z ≡ decimal n
unfolding signed_decimal
from_zero_text z n e = rw e
