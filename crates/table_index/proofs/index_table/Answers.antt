-- `index_table` returns what its definition says: fewer words than the count are inserted, or the unused ones decide.
use mathlib.Core.Path.{◌≡◌}
use lib.ListN.{length}
use Rattle.table_index.proofs.IndexLaws.{table_incomplete, table_rest}
use borrow.Author.Rules.{rules}
use Rattle.table_index.proofs.index_table.Goals as goal

pub returns-then-n-count : goal.returns-then-n-count
returns-then-n-count c =
    let a = c.args in
    let size : length a.words.now ≡ 64 = search rules in
    let k = c.index_words-n in record { value = table_incomplete a.revision a.words.now a.count a.cells.now size k.result k.ensures.value c.if-n-count.true; cells_after = k.ensures.cells_after }

pub returns : goal.returns
returns c =
    let a = c.args in
    let size : length a.words.now ≡ 64 = search rules in
    let k = c.index_words-n in record { value = table_rest a.revision a.words.now a.count a.cells.now size k.result k.ensures.value c.if-n-count.false c.unused.ensures; cells_after = k.ensures.cells_after }
