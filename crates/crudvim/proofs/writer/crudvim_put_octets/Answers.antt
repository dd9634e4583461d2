-- `crudvim_put_octets` meets its contract: the call on the state in the array.
use Rattle.writer_state.specs.Call.{put_octets}
use Rattle.writer_words.proofs.Answers.{called, called_buffer}
use Rattle.crudvim.proofs.writer.crudvim_put_octets.Goals as goal

pub returns : goal.returns
returns c =
    let a = c.args in
    let e = c.state_of-given.ensures in
    let p = c.put_octets_by_octets-put_octets.ensures in
    let w = c.answered.ensures in
    record {
      octets_value = called a.table.now a.state.now a.buffer.now (put_octets a.tag a.octets.now) e p.value w.refusal w.place_after w.state_after;
      buffer_after = called_buffer a.table.now a.state.now a.buffer.now (put_octets a.tag a.octets.now) e p.out_after;
    }
