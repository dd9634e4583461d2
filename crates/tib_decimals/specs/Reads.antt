-- The rule for reading a real in decimals.
use Rattle.std.specs.Prelude.{ℕ, ◌*◌, ◌-◌, ◌^◌, ◌≤◌, ◌≡◌, true}
use Rattle.tib_real.specs.declared.types.Real.{Real}
use Rattle.tib_real.specs.declared.types.WholeNumber.{WholeNumber}
use Rattle.tib_real.specs.Parts.{eight, negative, finite, units}
use Rattle.tib_real.specs.WholeNumber.{signed, refused, accepted}
use Rattle.tib_decimals.specs.Nearest.{Nearest}
use Rattle.tib_decimals.specs.InDecimals.{in_range}

-- What the rule asks of a real x and of a number n. The answer is then n with the sign of x, where 0 has no sign. The size of x is `units` over
-- 2 ^ 1074.
pub record Reads (r : Real) (n : ℕ) : Type 0 where
  pub hinted : r.hinted ≡ true
  pub least : 17 ≤ r.hint
  pub most : r.hint ≤ 25
  pub number : finite eight r.bits ≡ true
  pub near : Nearest (units eight r.bits * 10 ^ (r.hint - 16)) (2 ^ 1074) n
  pub fits : in_range (negative eight r.bits) n ≡ true

-- The answer a to a real: the number of the rule, or, if there is none, the refusal.
pub data Answered (r : Real) (a : WholeNumber) : Type 0 where
  read : (n : ℕ) → Reads r n → a ≡ accepted (signed (negative eight r.bits) n) → Answered r a
  not_read : ((n : ℕ) → Reads r n → ⊥) → a ≡ refused → Answered r a
