-- `octets_read::length_width` meets its contract.
use native.Mathlib.Omega.{arith}
use Rattle.octets.specs.ControlPart.{length_code}
use Rattle.octets_read.proofs.Leads.{direct}
use Rattle.octets_read.proofs.Coded.{length_follow, length_most}
use Rattle.octets_read.proofs.length_width.Goals as goal

pub returns-then-l-lt12 : goal.returns-then-l-lt12
returns-then-l-lt12 c = record { value = direct length_code c.args.l c.if-l-lt12.true; upper_bound = omega arith }

pub returns : goal.returns
returns c =
    let e = length_follow c.args.l c.if-l-lt12.false c.requires in record { value = e; upper_bound = rw e (length_most c.args.l c.if-l-lt12.false c.requires) }
