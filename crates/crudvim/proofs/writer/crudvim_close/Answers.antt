-- `crudvim_close` meets its contract: the call on the state in the array.
use Rattle.writer_state.specs.Call.{close_field}
use Rattle.writer_words.proofs.Answers.{called, called_buffer}
use Rattle.crudvim.proofs.writer.crudvim_close.Goals as goal

pub returns : goal.returns
returns c =
    let a = c.args in
    let e = c.state_of-given.ensures in
    let p = c.close_field_by_octets-closed.ensures in
    let w = c.answered.ensures in
    record {
      close_field_value = called a.table.now a.state.now a.buffer.now close_field e p.value w.refusal w.place_after w.state_after;
      buffer_after = called_buffer a.table.now a.state.now a.buffer.now close_field e p.out_after;
    }
