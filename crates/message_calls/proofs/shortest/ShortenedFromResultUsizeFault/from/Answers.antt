use Rattle.message_calls.specs.Shorten.{refusal}
use Rattle.message_calls.proofs.shortest.ShortenedFromResultUsizeFault.from.Goals as goal

pub returns-in-Err : goal.returns-in-Err
unfolding refusal
returns-in-Err c = rw (c.in-Err.is, c.number.ensures)
