-- Unsigned numbers as octets, the first octet the most significant.
use Rattle.std.specs.Prelude.{ℕ, zero, suc, ◌+◌, ◌*◌, ◌/◌, ◌%◌, ◌^◌, ◌<◌, cond, List, [], ◌∷◌, length, leb}

-- Octets are numbers below 256.
unfoldable pub Octets : List ℕ → Type 0
Octets [] = Unit {0}
Octets (x ∷ s) = (x < 256) × Octets s

-- The big-endian number that octets hold; no octets hold 0.
unfoldable pub big_endian : List ℕ → ℕ
big_endian [] = 0
big_endian (x ∷ s) = x * 256 ^ length s + big_endian s

-- A number's last n octets.
unfoldable pub octets_of : ℕ → ℕ → List ℕ
octets_of zero v = []
octets_of (suc n) v = v / 256 ^ n % 256 ∷ octets_of n v

-- The least n with v < 256 ^ n, or m where that n is more than m.
unfoldable pub width_within : ℕ → ℕ → ℕ
width_within zero v = zero
width_within (suc m) v = cond (leb (256 ^ m) v) (suc m) (width_within m v)

-- How many octets a number of 64 bits needs: none for 0.
unfoldable pub width : ℕ → ℕ
width v = width_within 8 v

-- The least octets of a uint.
unfoldable pub least_uint : ℕ → List ℕ
least_uint v = octets_of (width v) v
