-- What the bits of a real say, in whole numbers. A real of four octets or of eight has a sign, an exponent and a fraction, in this order
-- from the most significant bit on.
use Rattle.std.specs.Prelude.{ℕ, ◌+◌, ◌-◌, ◌*◌, ◌/◌, ◌%◌, ◌^◌, Bool, cond, ◌==◌, nat_le, nat_lt}

-- How many bits the fraction and the exponent have.
pub record Layout : Type 0 where
  pub fraction_bits : ℕ
  pub exponent_bits : ℕ

-- A real of four octets.
abbrev pub four : Layout
four = record { fraction_bits = 23; exponent_bits = 8 }

-- A real of eight octets.
abbrev pub eight : Layout
eight = record { fraction_bits = 52; exponent_bits = 11 }

-- Whether the sign is set.
unfoldable pub negative : Layout → ℕ → Bool
negative l b = nat_le (2 ^ (l.fraction_bits + l.exponent_bits)) b

-- The bits between the sign and the fraction.
unfoldable pub exponent : Layout → ℕ → ℕ
exponent l b = b % 2 ^ (l.fraction_bits + l.exponent_bits) / 2 ^ l.fraction_bits

-- The bits below the exponent.
unfoldable pub fraction : Layout → ℕ → ℕ
fraction l b = b % 2 ^ l.fraction_bits

-- An exponent of ones alone stands for no number: with no fraction it is an infinity, else not-a-number.
unfoldable pub finite : Layout → ℕ → Bool
finite l b = nat_lt (exponent l b) (2 ^ l.exponent_bits - 1)

-- The fraction with the digit that stands before it, which is 0 where the exponent is 0, else 1.
unfoldable pub significand : Layout → ℕ → ℕ
significand l b = cond (exponent l b == 0) (fraction l b) (2 ^ l.fraction_bits + fraction l b)

-- The size of a finite real, exactly: this whole number over 2 ^ 149 for four octets, over 2 ^ 1074 for eight. The exponent 0 counts as 1.
unfoldable pub units : Layout → ℕ → ℕ
units l b = significand l b * 2 ^ (exponent l b - 1)
