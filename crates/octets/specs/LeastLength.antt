-- The least number of octets that hold a number.
use Rattle.std.specs.Prelude.{ℕ, ◌+◌, ◌*◌, ◌-◌, ◌/◌, ◌≤◌, ◌≡◌, List, [], ◌∷◌, length, ℤ, pos, negsuc}
use Rattle.std.specs.Int.Count.{count_leading_zeros}
use Rattle.octets.specs.Number.{Octets}
use Rattle.octets.specs.Signed.{least_int}

-- n is the least number of octets that hold x, where `value` reads octets as a number.
pub record LeastLength {A : Type 0} (value : List ℕ → A) (x : A) (n : ℕ) : Type 0 where
  pub held : (s : List ℕ) × Octets s × (length s ≡ n) × (value s ≡ x)
  pub least : (s : List ℕ) → Octets s → value s ≡ x → n ≤ length s

-- A signed number as an unsigned one, with its sign as the lowest bit: 0, -1, 1, -2, 2 become 0, 1, 2, 3, 4.
unfoldable pub zigzag : ℤ → ℕ
zigzag (pos v) = 2 * v
zigzag (negsuc k) = 2 * k + 1

-- How many octets a number of 64 bits takes without its leading zero bits. Adding 7 rounds up to whole octets.
unfoldable pub octets_by_zeros : ℕ → ℕ
octets_by_zeros v = (71 - count_leading_zeros 64 v) / 8

-- Ints and their least octets: 0, -128, 128, -129 and the lowest int of 64 bits.
unfoldable pub samples : List (ℤ × List ℕ)
samples =
    (pos 0, [])
    ∷ (negsuc 127, 0x80 ∷ [])
    ∷ (pos 128, 0x00 ∷ 0x80 ∷ [])
    ∷ (negsuc 128, 0x80 ∷ 0x81 ∷ [])
    ∷ (negsuc 0x7fff_ffff_ffff_ffff, 0x80 ∷ 0 ∷ 0 ∷ 0 ∷ 0 ∷ 0 ∷ 0 ∷ 0 ∷ [])
    ∷ []

-- Every sample has those least octets, as many as the leading zeros say.
unfoldable pub Hold : List (ℤ × List ℕ) → Type 0
Hold [] = Unit {0}
Hold ((z, s) ∷ xs) = ((least_int z ≡ s) × (octets_by_zeros (zigzag z) ≡ length s)) × Hold xs
