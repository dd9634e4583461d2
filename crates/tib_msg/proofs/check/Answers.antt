-- `tib_msg::check` meets its contract.
use lib.ListN.{length}
use Rattle.reading.proofs.Checks.{checked_of_verdict}
use Rattle.tib_msg_field.specs.Reading.{reading}
use Rattle.tib_field.specs.Steps.{flat_depth}
use Rattle.tib_msg.specs.CheckAndField.{check}
use Rattle.tib_msg.proofs.check.Goals as goal

pub returns : goal.returns
unfolding check
returns c = checked_of_verdict length flat_depth (reading c.args.message.now) c.read.result c.read.ensures
