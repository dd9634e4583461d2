-- `tib_rv::shown` meets its contract.
use Rattle.tib_rv.specs.internal.Found.{shown_sizes}
use Rattle.tib_rv.proofs.shown.Goals as goal

pub returns : goal.returns
unfolding shown_sizes
returns c = rw (c.from.ensures, c.data_at.ensures, c.no_real.ensures)
