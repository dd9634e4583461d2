-- `crudvim_open` meets its contract: the call on the state in the array.
use mathlib.Core.List.{[]}
use Rattle.writer_state.specs.Call.{open_field}
use Rattle.writer_words.proofs.Answers.{called}
use Rattle.crudvim.proofs.writer.crudvim_open.Goals as goal

pub returns : goal.returns
returns c =
    let a = c.args in
    let w = c.answered.ensures in
    called a.table.now a.state.now [] (open_field a.tag) c.state_of-given.ensures c.open_field_by_octets-opened.ensures w.refusal w.place_after w.state_after
