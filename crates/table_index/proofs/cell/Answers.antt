-- `cell` looks at the first cell of the chain of a tag that fits 16 bits, and follows the chain if that has another key.
use native.Mathlib.Omega.{arith}
use Prim.Native.Nat.{◌+◌, ◌*◌}
use mathlib.Core.Path.{sym}
use Rattle.table_index.proofs.Chains.{chase_here}
use Rattle.table_index.proofs.Meanings.{cell_large, cell_found}
use Rattle.table_index.proofs.cell.Goals as goal

pub returns-then-tag-gt65535 : goal.returns-then-tag-gt65535
returns-then-tag-gt65535 c =
    let a = c.args in
    cell_large a.cells.now a.number a.tag (omega arith)

pub returns-then-c-key : goal.returns-then-c-key
returns-then-c-key c =
    let a = c.args in
    let n = c.capped-n in
    let w = c.from-c in
    cell_found a.cells.now a.number a.tag (omega arith) n.ensures w.ensures
    (sym (chase_here a.cells.now (n.result * 65536 + a.tag) 63 w.result c.if-c-key.true))

pub returns : goal.returns
returns c =
    let a = c.args in
    cell_found a.cells.now a.number a.tag (omega arith) c.capped-n.ensures c.from-c.ensures c.follow.ensures
