-- The arguments of the calls of tib_real and tib_decimals, and the answers that their contracts fix.
use Rattle.std.specs.Prelude.{ℕ, Bool, ◌&&◌, List}
use Rattle.tib_real.specs.FromOctets.{with_bits, real_of}
use Rattle.tib_real.specs.InFractions.{fractions_of}
use Rattle.tib_decimals.specs.InDecimals.{decimals_of}
use Rattle.tib_real.specs.declared.types.Real.{Real}
use Rattle.tib_real.specs.declared.types.WholeNumber.{WholeNumber}
use Rattle.wrong_programs.specs.Kinds.{Given, octets, word}

-- A real that octets hold.
pub record RealInput : Type 0 where
  pub contents : List ℕ
  pub hint : ℕ
  pub hinted : Bool

unfoldable pub real_fits : RealInput → Bool
real_fits x = octets x.contents && word x.hint

abbrev pub RealCall : Type 0
RealCall = Given real_fits

-- The contract of tib_real::real.
unfoldable pub real : RealCall → Real
real x = real_of x.value.contents x.value.hint x.value.hinted

-- A real by its bits, with its hint.
pub record HintedReal : Type 0 where
  pub bits : ℕ
  pub hint : ℕ
  pub hinted : Bool

unfoldable pub hinted_fits : HintedReal → Bool
hinted_fits x = word x.bits && word x.hint

abbrev pub HintedCall : Type 0
HintedCall = Given hinted_fits

-- The contract of tib_real::fractions, and of crudvim_fractions, where `hinted` is a number and every number but 0 counts as true.
unfoldable pub fractions : HintedCall → WholeNumber
fractions x = fractions_of (with_bits x.value.bits x.value.hint x.value.hinted)

-- The contract of tib_decimals::decimals, and of crudvim_decimals, in the same way.
unfoldable pub decimals : HintedCall → WholeNumber
decimals x = decimals_of (with_bits x.value.bits x.value.hint x.value.hinted)
