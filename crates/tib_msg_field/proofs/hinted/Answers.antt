-- `tib_msg_field::hinted` meets its contract.
use lib.Bits.{and_mask}
use Rattle.tib_msg_field.specs.Layout.{hinted}
use Rattle.tib_msg_field.proofs.hinted.Goals as goal

pub returns : goal.returns
unfolding hinted
returns c = rw (and_mask _ 1)
