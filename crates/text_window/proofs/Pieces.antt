-- A piece that is printed octet by octet.
use Prim.Native.Nat.{ℕ, ◌+◌, ◌/◌, ◌%◌, ◌<◌}
use native.Mathlib.Numerals.{add-one}
use native.Mathlib.Omega.{arith}
use mathlib.Core.Path.{◌≡◌, refl, sym, ap, ◌∙◌}
use mathlib.Core.List.{List, [], ◌∷◌, ◌++◌}
use lib.ListN.{length, take, get_or}
use lib.Seq.{take-suc}
use Rattle.text_window.specs.Digits.{glyph, hex, hex_or_dash, four_digits}

pub hex_append : (xs ys : List ℕ) → hex (xs ++ ys) ≡ hex xs ++ hex ys
unfolding hex
hex_append [] ys = refl
hex_append (x ∷ xs) ys = ap (λ (l : List ℕ). glyph (x / 16) ∷ glyph (x % 16) ∷ l) (hex_append xs ys)

pub hex_nil : hex [] ≡ []
unfolding hex
hex_nil = refl

-- The two octets of a number of 16 bits.
pub four_is : (n : ℕ) → hex (n / 256 % 256 ∷ []) ++ hex (n % 256 ∷ []) ≡ four_digits n
unfolding hex four_digits
four_is n =
    let a : n / 256 % 256 / 16 ≡ n / 4096 % 16 = omega arith in
    let b : n / 256 % 256 % 16 ≡ n / 256 % 16 = omega arith in
    let c : n % 256 / 16 ≡ n / 16 % 16 = omega arith in
    let d : n % 256 % 16 ≡ n % 16 = omega arith in
    rw (a, b, c, d)

-- The text of no octets, and of some.
pub dash_is : (s : List ℕ) → length s ≡ 0 → hex_or_dash s ≡ 0x2d ∷ []
unfolding hex_or_dash
dash_is [] e = refl
dash_is (x ∷ s) e = absurd (omega arith)

pub hex_is : (s : List ℕ) → (length s ≡ 0 → ⊥) → hex_or_dash s ≡ hex s
unfolding hex_or_dash
hex_is [] n = absurd (n refl)
hex_is (x ∷ s) n = refl

-- The text of one octet more.
pub take_more : (s : List ℕ) (i : ℕ) → i < length s → take i s ++ (get_or s i 0 ∷ []) ≡ take (i + 1) s
take_more s i h = sym (rw (add-one i) (take-suc s i 0 h))

pub hex_more : (s : List ℕ) (i : ℕ) → i < length s → hex (take i s) ++ hex (get_or s i 0 ∷ []) ≡ hex (take (i + 1) s)
hex_more s i h = sym (hex_append (take i s) (get_or s i 0 ∷ [])) ∙ ap hex (take_more s i h)
