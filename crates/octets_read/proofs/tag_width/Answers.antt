-- `octets_read::tag_width` meets its contract.
use native.Mathlib.Omega.{arith}
use Rattle.octets.specs.ControlPart.{tag_code}
use Rattle.octets_read.proofs.Leads.{direct}
use Rattle.octets_read.proofs.Coded.{tag_follow}
use Rattle.octets_read.proofs.tag_width.Goals as goal

pub returns-then-t-lt14 : goal.returns-then-t-lt14
returns-then-t-lt14 c = record { value = direct tag_code c.args.t c.if-t-lt14.true; upper_bound = omega arith }

pub returns : goal.returns
returns c = record { value = tag_follow c.args.t c.if-t-lt14.false c.requires; upper_bound = omega arith }
