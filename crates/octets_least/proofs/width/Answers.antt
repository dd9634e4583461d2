-- `octets_least::width` meets its contract.
use native.Mathlib.Nat.{le_trans}
use native.Mathlib.Omega.{arith}
use lib.Count.{leading_le}
use borrow.Author.Rules.{rules}
use Rattle.octets.specs.LeastLength.{octets_by_zeros}
use Rattle.octets.proofs.LeadingZeros.{leading_width}
use Rattle.octets_least.proofs.width.Goals as goal

pub overflow_sub-result : goal.overflow_sub-result
overflow_sub-result c = le_trans (leading_le 64 _) (omega arith)

pub returns : goal.returns
returns c = unfold octets_by_zeros in leading_width c.args.v (search rules)
