-- `tib_real::hint_within` meets its contract.
use Rattle.std.proofs.Common.{refl}
use Rattle.tib_real.specs.WholeNumber.{hint_within}
use Rattle.tib_real.proofs.hint_within.Goals as goal

pub returns : goal.returns
unfolding hint_within
returns c = refl
