-- The rule for reading a real in fractions.
use Rattle.std.specs.Prelude.{◌≡◌, ℕ, ◌*◌, ◌^◌, ◌<◌, ◌≤◌, true}
use Rattle.tib_real.specs.declared.types.Real.{Real}
use Rattle.tib_real.specs.Parts.{eight, finite, units}

-- What the rule asks of a real and of the size n of its answer.
pub record Reads (r : Real) (n : ℕ) : Type 0 where
  pub hinted : r.hinted ≡ true
  pub least : 1 ≤ r.hint
  pub most : r.hint ≤ 8
  pub number : finite eight r.bits ≡ true
  pub product : units eight r.bits * 2 ^ r.hint ≡ n * 2 ^ 1074
  pub small : n < 2 ^ 53
