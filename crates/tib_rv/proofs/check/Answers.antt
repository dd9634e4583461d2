-- `tib_rv::check` meets its contract.
use Rattle.reading.proofs.Checks.{checked_of_verdict}
use Rattle.tib_rv_field.specs.Layout.{depth}
use Rattle.tib_rv_field.specs.Reading.{reading}
use Rattle.tib_rv.specs.CheckAndField.{count, check}
use Rattle.tib_rv.proofs.check.Goals as goal

pub returns : goal.returns
unfolding check
returns c = checked_of_verdict count depth (reading c.args.message.now) c.read.result c.read.ensures
