-- `insert` changes the cells only if the key is new.
use native.Mathlib.Omega.{arith}
use Rattle.table_index.proofs.Words.{small, key_low}
use Rattle.table_index.proofs.InsertLoop.{insert_repeated, insert_new}
use Rattle.table_index.proofs.insert.Goals as goal

pub lacks-requires : goal.lacks-requires
lacks-requires c =
    let w = c.args.w in
    omega (arith, key_low w (small w c.requires.w_value), c.word_key-key.ensures)

pub returns-then-not-lacks : goal.returns-then-not-lacks
returns-then-not-lacks c =
    let a = c.args in
    let l = c.lacks in
    let all = insert_repeated a.w a.i a.cells.now c.word_key-key.ensures l.ensures c.if-not-lacks.true in record { value = all.0; cells_after = all.1 }

pub returns : goal.returns
returns c =
    let a = c.args in
    let l = c.lacks in
    let all = insert_new a.w a.i a.cells.now c.word_key-key.ensures l.ensures c.if-not-lacks.false c.link.ensures in record { value = all.0; cells_after = all.1 }
