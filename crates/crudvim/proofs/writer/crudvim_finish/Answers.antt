-- `crudvim_finish` meets its contract: finish on the state in the array.
use Rattle.writer_words.proofs.Answers.{ended}
use Rattle.crudvim.proofs.writer.crudvim_finish.Goals as goal

pub returns-in-Ok : goal.returns-in-Ok
returns-in-Ok c = ended c.args.state.now c.state_of.ensures c.in-Ok.ensures

pub returns-in-Err : goal.returns-in-Err
returns-in-Err c = rw c.number.ensures (ended c.args.state.now c.state_of.ensures c.in-Err.ensures)
