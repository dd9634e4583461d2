-- `deeper` meets its contract: a level more.
use mathlib.Core.Path.{refl}
use Rattle.writer_state.specs.Calls.{masked, deeper}
use Rattle.writer_nesting.proofs.deeper.Goals as goal

pub returns : goal.returns
unfolding masked deeper
returns c = refl
