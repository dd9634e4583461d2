-- `find` returns the meaning of the cell.
use mathlib.Core.Path.{ap, ◌∙◌}
use Rattle.table_index.specs.internal.Cells.{meaning_in, indexed}
use Rattle.table_index.proofs.find.Goals as goal

pub returns : goal.returns
unfolding indexed
returns c = c.meaning.ensures ∙ ap meaning_in c.cell.ensures
