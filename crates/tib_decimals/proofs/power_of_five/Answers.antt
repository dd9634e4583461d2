-- `tib_decimals::power_of_five` meets its contract.
use native.Mathlib.Omega.{arith}
use Rattle.tib_decimals.proofs.Powers.{five_to}
use Rattle.tib_decimals.proofs.power_of_five.Goals as goal

pub returns-in-1 : goal.returns-in-1
returns-in-1 c = five_to 1 c.args.k (omega arith)

pub returns-in-2 : goal.returns-in-2
returns-in-2 c = five_to 2 c.args.k (omega arith)

pub returns-in-3 : goal.returns-in-3
returns-in-3 c = five_to 3 c.args.k (omega arith)

pub returns-in-4 : goal.returns-in-4
returns-in-4 c = five_to 4 c.args.k (omega arith)

pub returns-in-5 : goal.returns-in-5
returns-in-5 c = five_to 5 c.args.k (omega arith)

pub returns-in-6 : goal.returns-in-6
returns-in-6 c = five_to 6 c.args.k (omega arith)

pub returns-in-7 : goal.returns-in-7
returns-in-7 c = five_to 7 c.args.k (omega arith)

pub returns-in-8 : goal.returns-in-8
returns-in-8 c = five_to 8 c.args.k (omega arith)

pub returns-in-9 : goal.returns-in-9
returns-in-9 c = five_to 9 c.args.k (omega arith)

pub returns-in_default : goal.returns-in_default
returns-in_default c = five_to 0 c.args.k (omega arith)
