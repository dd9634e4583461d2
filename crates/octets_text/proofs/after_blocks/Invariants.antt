-- `octets_text::after_blocks` meets its contract: the octets passed are below 0x80, so that the rest decides.
use Rattle.std.proofs.Common.{length}
use Rattle.octets_text.specs.internal.Plain.{Left}
use Rattle.octets_text.proofs.after_blocks.Given as goal

abbrev pub invariant-loop-block : goal.invariant-loop-block
invariant-loop-block g l = Left l.s l.rest

abbrev pub decreases-loop-block : goal.decreases-loop-block
decreases-loop-block g l = length l.rest
