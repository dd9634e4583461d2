-- `valid` returns what its definition says: its cells were cleared.
use Rattle.table_index.proofs.IndexLaws.{table_valid}
use Rattle.table_index.proofs.valid.Goals as goal

pub returns : goal.returns
returns c = table_valid 1 c.args.t c.index_table.ensures.value
