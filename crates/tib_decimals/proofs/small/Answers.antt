-- `tib_decimals::small` meets its contract.
use native.Mathlib.Omega.{arith}
use Rattle.tib_decimals.proofs.Shifts.{half_bounds}
use Rattle.tib_decimals.proofs.TwoParts.{small_is, odd_below}
use Rattle.tib_decimals.proofs.small.Goals as goal

pub overflow_add-carry-2 : goal.overflow_add-carry-2
overflow_add-carry-2 c = record { fits = omega (arith, odd_below c.args.high c.args.low c.args.t c.requires.0 c.requires.1 c.requires.2) }

pub overflow_sub-result-2 : goal.overflow_sub-result-2
overflow_sub-result-2 c = (half_bounds c.args.t c.requires.3).0

pub overflow_add-result : goal.overflow_add-result
overflow_add-result c = let h = half_bounds c.args.t c.requires.3 in record { fits = omega arith }

pub overflow_add-result-2 : goal.overflow_add-result-2
overflow_add-result-2 c =
    let h = half_bounds c.args.t c.requires.3 in
    let o = odd_below c.args.high c.args.low c.args.t c.requires.0 c.requires.1 c.requires.2 in
    record { fits = omega arith }

pub returns : goal.returns
returns c = small_is c.args.high c.args.low c.args.t c.requires.0 c.requires.1 c.requires.2 c.requires.3
