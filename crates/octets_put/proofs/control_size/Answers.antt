-- `octets_put::control_size` meets its contract.
use native.Mathlib.Omega.{arith}
use mathlib.Core.Path.{sym}
use Rattle.octets_put.proofs.Least.{least_control_size, least_control_widths}
use Rattle.octets_put.proofs.control_size.Goals as goal

pub overflow_add-result : goal.overflow_add-result
overflow_add-result c = omega (arith, least_control_widths _ _ _ c.control_least-c.ensures)

pub overflow_add-result-2 : goal.overflow_add-result-2
overflow_add-result-2 c = omega (arith, least_control_widths _ _ _ c.control_least-c.ensures)

pub returns : goal.returns
returns c = sym (least_control_size _ _ _ c.control_least-c.ensures)
