-- `index` inserts the records without a mark at the start, and then the others.
use Rattle.table_index.specs.internal.Pass.{IndexEnds}
use Rattle.table_index.proofs.index.Goals as goal

pub index_from-requires : goal.index_from-requires
index_from-requires c = let k = c.index_unmarked-n.ensures 1 in (k.place, k.within)

pub returns : goal.returns
unfolding IndexEnds
returns c = let a = c.args in
    let all = c.index_from.ensures a.cells.now (c.index_unmarked-n.ensures a.revision) in record { value = all.0; cells_after = all.1 }
