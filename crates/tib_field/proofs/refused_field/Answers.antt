-- `tib_field::refused_field` meets its contract.
use Rattle.tib_field.proofs.refused_field.Goals as goal

pub returns : goal.returns
returns c = rw c.no_real.ensures
