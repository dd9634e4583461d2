-- `tib_field::zero_between` meets its contract.
use Rattle.tib_field.proofs.Zeros.{part_told}
use Rattle.tib_field.proofs.zero_between.Goals as goal

pub returns : goal.returns
returns c = part_told _ _ _ c.requires.0 c.requires.1 _ c.contains.ensures.cases
