use Rattle.message_calls.specs.internal.Spans.{chosen_span}
use Rattle.message_calls.proofs.outermost.pick.Goals as goal

pub returns-in-Nth : goal.returns-in-Nth
unfolding chosen_span
returns-in-Nth c = rw c.in-Nth.is c.nth.ensures

pub returns-in-Last : goal.returns-in-Last
unfolding chosen_span
returns-in-Last c = rw c.in-Last.is c.last.ensures
