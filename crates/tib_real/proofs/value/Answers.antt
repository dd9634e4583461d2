-- `tib_real::value` meets its contract.
use Rattle.std.proofs.Common.{arith}
use Rattle.tib_real.proofs.Masks.{above_infinity, not_above_infinity}
use Rattle.tib_real.proofs.value.Goals as goal

pub float_from_bits-result : goal.float_from_bits-result
float_from_bits-result c = not_above_infinity c.args.bits (omega arith)

pub returns-then-bits-gt9218868437227405312 : goal.returns-then-bits-gt9218868437227405312
returns-then-bits-gt9218868437227405312 c = above_infinity c.args.bits (omega arith)
