-- `tib_field::begins` meets its contract.
use mathlib.Core.Path.{◌∙◌}
use Rattle.tib_field.proofs.Marks.{starts_begins}
use Rattle.tib_field.proofs.begins.Goals as goal

pub returns : goal.returns
returns c = c.starts_with.ensures.value ∙ starts_begins c.args.mark.now c.args.s.now
