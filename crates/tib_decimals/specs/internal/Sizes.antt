-- How the code computes the size of an answer: from the significand m, a power f of five, and an exponent e.
use Rattle.std.specs.Prelude.{ℕ, ◌+◌, ◌*◌, ◌-◌, ◌^◌, ◌≤◌, ◌<◌, min}
use Rattle.tib_decimals.specs.Nearest.{nearest}

-- A size above 2 ^ 63 is out of range for either sign. All of them count as 2 ^ 63 + 1, so that 64 bits hold every size.
unfoldable pub capped : ℕ → ℕ
capped n = min n (2 ^ 63 + 1)

-- The whole number nearest to m times f times 2 ^ (e - 1075), for an e above 0.
unfoldable pub size_of : ℕ → ℕ → ℕ → ℕ
size_of m f e = nearest (m * f * 2 ^ (e - 1)) (2 ^ 1074)

-- The ranges of the three.
pub record Factors (m f e : ℕ) : Type 0 where
  pub normal : 2 ^ 52 ≤ m
  pub significand : m < 2 ^ 53
  pub least : 4 ≤ f
  pub most : f < 2 ^ 21
  pub positive : 0 < e
