-- The decimal digits of a number have its value.
use Prim.Native.Nat.{ℕ, zero, suc, ◌+◌, ◌*◌, ◌-◌, ◌/◌, ◌%◌, ◌^◌, ◌<◌}
use native.Mathlib.Nat.{pow-suc}
use native.Mathlib.Omega.{arith}
use mathlib.Core.Path.{◌≡◌, refl, ◌∙◌}
use mathlib.Core.Bool.{Bool, true, false, cond}
use mathlib.Core.List.{List, [], ◌∷◌, ◌++◌}
use lib.Dec.{ltb}
use lib.IntN.{negsuc}
use borrow.Author.Tests.{lt-ltb, ltb-true}
use Rattle.text_window.specs.Ascii.{ascii}
use Rattle.text_window.specs.Digits.{glyph, decimal_within, decimal, signed_decimal}
use Rattle.text_window.specs.ReadDecimal.{read_after}

read_append : (v : ℕ) (xs ys : List ℕ) → read_after v (xs ++ ys) ≡ read_after (read_after v xs) ys
unfolding read_after
read_append v [] ys = refl
read_append v (d ∷ xs) ys = read_append (v * 10 + (d - 0x30)) xs ys

digit_is : (d : ℕ) → d < 10 → glyph d ≡ 0x30 + d
unfolding glyph
digit_is d h = rw (lt-ltb d 10 h)

-- If `most` digits are enough for a number, its digits have its value.
within_read : (most n : ℕ) → n < 10 ^ most → read_after 0 (decimal_within most n) ≡ n
unfolding read_after decimal_within
within_read zero n h = omega arith
within_read (suc most) n h =
    let p = pow-suc 10 most in
    go (ltb n 10) refl (within_read most (n / 10) (omega arith))
  where
    go : (t : Bool) → ltb n 10 ≡ t → read_after 0 (decimal_within most (n / 10)) ≡ n / 10
        → read_after 0 (cond t (glyph n ∷ []) (decimal_within most (n / 10) ++ (glyph (n % 10) ∷ []))) ≡ n
    go true e r = let d = digit_is n (ltb-true n 10 e) in omega arith
    go false e r =
        let d = digit_is (n % 10) (omega arith) in
        read_append 0 (decimal_within most (n / 10)) (glyph (n % 10) ∷ []) ∙ rw r (omega arith)

pub decimal_read : (n : ℕ) → n < 2 ^ 64 → read_after 0 (decimal n) ≡ n
unfolding decimal
decimal_read n h = within_read 20 n (omega arith)

-- The least and the largest numbers, and those where a digit is added.
pub samples_hold :
    (decimal 0 ≡ ascii "0")
    × (decimal 9 ≡ ascii "9")
    × (decimal 10 ≡ ascii "10")
    × (decimal 18446744073709551615 ≡ ascii "18446744073709551615")
    × (signed_decimal (negsuc 0) ≡ ascii "-1")
    × (signed_decimal (negsuc 9223372036854775807) ≡ ascii "-9223372036854775808")
unfolding decimal decimal_within signed_decimal glyph ascii
samples_hold = (refl, refl, refl, refl, refl, refl)
