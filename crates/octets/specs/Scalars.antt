-- What UTF-8 encodes, and how (RFC 3629, section 3): scalar values, each in one sequence of octets.
use Rattle.std.specs.Prelude.{ℕ, ◌+◌, ◌/◌, ◌%◌, ◌≤◌, ◌≡◌, cond, List, [], ◌∷◌, ◌++◌, ◌⊎◌, leb}

-- A scalar value: 0 to 10ffff without the surrogates d800 to dfff.
unfoldable pub Scalar : ℕ → Type 0
Scalar v = (v ≤ 0xd7ff) ⊎ ((0xe000 ≤ v) × (v ≤ 0x10ffff))

-- A list of scalar values.
unfoldable pub Scalars : List ℕ → Type 0
Scalars [] = Unit {0}
Scalars (v ∷ vs) = Scalar v × Scalars vs

-- The octet 10xxxxxx with the lowest six bits of a number.
unfoldable pub six_bits : ℕ → ℕ
six_bits v = 0x80 + v % 64

-- The octets of a scalar value, by the RFC's table: 0xxxxxxx; 110xxxxx 10xxxxxx; 1110xxxx 10xxxxxx 10xxxxxx; 11110xxx 10xxxxxx 10xxxxxx
-- 10xxxxxx.
unfoldable pub encode : ℕ → List ℕ
encode v =
    cond (leb v 0x7f) (v ∷ [])
    (cond (leb v 0x7ff) ((0xc0 + v / 64) ∷ six_bits v ∷ [])
    (cond (leb v 0xffff) ((0xe0 + v / 4096) ∷ six_bits (v / 64) ∷ six_bits v ∷ [])
    ((0xf0 + v / 262144) ∷ six_bits (v / 4096) ∷ six_bits (v / 64) ∷ six_bits v ∷ [])))

-- The octets of a list of scalar values, joined.
unfoldable pub encode_all : List ℕ → List ℕ
encode_all [] = []
encode_all (v ∷ vs) = encode v ++ encode_all vs

-- The octets are the joined encodings of a list of scalar values.
pub record Encoded (s : List ℕ) : Type 0 where
  pub values : List ℕ
  pub scalars : Scalars values
  pub joined : encode_all values ≡ s
