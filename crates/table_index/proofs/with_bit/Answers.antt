-- `with_bit` returns what its definition says. The bit's number is below 64, so nothing is shifted out.
use native.Mathlib.Omega.{arith}
use Prim.Native.Nat.{◌%◌}
use Rattle.table.proofs.Masks.{with_shifted}
use Rattle.table_index.proofs.with_bit.Goals as goal

pub returns : goal.returns
returns c = with_shifted c.args.mask (c.args.order % 64) (omega arith)
