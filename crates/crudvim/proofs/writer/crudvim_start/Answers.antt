-- `crudvim_start` meets its contract: an array of another length is cleared, and any other holds the state of start.
use mathlib.Core.Path.{◌∙◌}
use lib.ListN.{length}
use Rattle.writer_words.proofs.Answers.{start_other, start_stored}
use Rattle.crudvim.proofs.writer.crudvim_start.Goals as goal

pub returns-then-state-ne-STATE_WORDS : goal.returns-then-state-ne-STATE_WORDS
returns-then-state-ne-STATE_WORDS c =
    let a = c.args in
    rw c.number.ensures
    (start_other a.table.now a.revision a.number (length a.buffer.now) a.state.now c.if-state-ne-STATE_WORDS.true c.clear.ensures)

pub returns : goal.returns
returns c =
    let a = c.args in
    start_stored a.table.now a.revision a.number (length a.buffer.now) a.state.now c.if-state-ne-STATE_WORDS.false
    (c.of-w.ensures ∙ rw c.zeros.ensures c.start_by_octets-started.ensures) c.store.ensures
