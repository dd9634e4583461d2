use mathlib.Core.Path.{refl}
use Rattle.table.specs.Mask.{has_bit}
use Rattle.table_index.proofs.has_bit.Goals as goal

pub returns : goal.returns
unfolding has_bit
returns c = refl
