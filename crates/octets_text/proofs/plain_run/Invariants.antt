-- `octets_text::plain_run` meets its contract: the octets passed are below 0x80, so that the rest decides.
use Rattle.octets_text.specs.internal.Plain.{Passed}
use Rattle.octets_text.proofs.plain_run.Given as goal

abbrev pub invariant-loop-i : goal.invariant-loop-i
invariant-loop-i l = Passed l.s l.i
