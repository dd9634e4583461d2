-- Signed numbers.
use Rattle.std.specs.Prelude.{ℕ, ℤ, pos, negsuc}

-- One less than the magnitude of a number below zero; 0 for any other.
unfoldable pub below_zero : ℤ → ℕ
below_zero (pos v) = 0
below_zero (negsuc k) = k
