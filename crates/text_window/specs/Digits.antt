-- The text of numbers and octets, as ASCII codes.
use Rattle.std.specs.Prelude.{ℕ, zero, suc, ◌+◌, ◌/◌, ◌%◌, cond, List, [], ◌∷◌, ◌++◌, ltb, ℤ, pos, negsuc}

-- A digit below 16: `0` to `9`, then `a` to `f`.
unfoldable pub glyph : ℕ → ℕ
glyph d = cond (ltb d 10) (0x30 + d) (0x57 + d)

-- The decimal digits of a number that has at most `most` digits, the most significant first.
unfoldable pub decimal_within : ℕ → ℕ → List ℕ
decimal_within zero n = []
decimal_within (suc most) n = cond (ltb n 10) (glyph n ∷ []) (decimal_within most (n / 10) ++ (glyph (n % 10) ∷ []))

-- A number of 64 bits has at most 20 digits.
unfoldable pub decimal : ℕ → List ℕ
decimal n = decimal_within 20 n

-- A signed number: a negative one has a `-` before its magnitude.
unfoldable pub signed_decimal : ℤ → List ℕ
signed_decimal (pos n) = decimal n
signed_decimal (negsuc k) = 0x2d ∷ decimal (suc k)

-- The low 16 bits of a number as four hex digits.
unfoldable pub four_digits : ℕ → List ℕ
four_digits n = glyph (n / 4096 % 16) ∷ glyph (n / 256 % 16) ∷ glyph (n / 16 % 16) ∷ glyph (n % 16) ∷ []

-- Two hex digits for each octet.
unfoldable pub hex : List ℕ → List ℕ
hex [] = []
hex (x ∷ s) = glyph (x / 16) ∷ glyph (x % 16) ∷ hex s

-- Octets in hex, or `-` if there are none.
unfoldable pub hex_or_dash : List ℕ → List ℕ
hex_or_dash [] = 0x2d ∷ []
hex_or_dash (x ∷ s) = hex (x ∷ s)
