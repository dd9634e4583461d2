-- Signed numbers as octets: the leftmost bit is the sign, the other bits the magnitude.
use Rattle.std.specs.Prelude.{ℕ, zero, suc, ◌+◌, ◌*◌, ◌-◌, ◌%◌, ◌^◌, Bool, true, false, List, [], ◌∷◌, length, leb, ℤ, pos, negsuc, neg_ℤ}
use Rattle.octets.specs.Number.{big_endian, octets_of, width}

-- Where the sign is set and all other bits are clear, n octets mean minus this.
unfoldable pub lowest : ℕ → ℕ
lowest n = 2 ^ (8 * n - 1)

-- The value of n octets by their sign, set or not, and their magnitude.
unfoldable pub with_sign : ℕ → Bool → ℕ → ℤ
with_sign n false m = pos m
with_sign n true zero = neg_ℤ (pos (lowest n))
with_sign n true (suc m) = neg_ℤ (pos (suc m))

-- The signed number that octets hold; no octets hold 0.
unfoldable pub integer : List ℕ → ℤ
integer [] = pos 0
integer (x ∷ s) = with_sign (length (x ∷ s)) (leb 128 x) (big_endian (x % 128 ∷ s))

-- How many octets a signed number needs: none for 0, else a bit for the sign beside the magnitude. Below zero, one less than the magnitude
-- has to fit beside the sign, since n octets also hold minus `lowest n`.
unfoldable pub signed_width : ℤ → ℕ
signed_width (pos v) = width (2 * v)
signed_width (negsuc k) = width (2 * k + 1)

-- The n octets of a signed number, read as an unsigned one: the sign, and the magnitude, or nothing where that is `lowest n`.
unfoldable pub signed_bits : ℕ → ℤ → ℕ
signed_bits n (pos v) = v
signed_bits n (negsuc k) = lowest n + suc k % lowest n

-- The least octets of an int.
unfoldable pub least_int : ℤ → List ℕ
least_int z = octets_of (signed_width z) (signed_bits (signed_width z) z)
