-- `tib_msg_field::kind` meets its contract.
use lib.Bits.{and_mask}
use mathlib.Core.Path.{◌∙◌}
use Rattle.tib_msg_field.specs.Layout.{kind}
use Rattle.tib_msg_field.proofs.kind.Goals as goal

pub returns : goal.returns
unfolding kind
returns c = c.from.ensures ∙ and_mask c.args.c 4
