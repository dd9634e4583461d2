use Rattle.message_calls.specs.internal.Spans.{read}
use Rattle.message_calls.proofs.outermost.contents.Goals as goal

pub returns : goal.returns
unfolding read
returns c = rw (c.value.ensures.kind_value, c.value.ensures.uint_value, c.value.ensures.int_value)
