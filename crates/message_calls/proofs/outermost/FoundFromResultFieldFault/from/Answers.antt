use Rattle.message_calls.specs.Lookup.{refusal}
use Rattle.message_calls.proofs.outermost.FoundFromResultFieldFault.from.Goals as goal

pub returns-in-Err : goal.returns-in-Err
unfolding refusal
returns-in-Err c = rw (c.in-Err.is, c.number.ensures)
