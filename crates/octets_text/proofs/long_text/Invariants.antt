-- `octets_text::long_text` meets its contract: at each turn the last three octets tell what is to come.
use Rattle.octets_text.proofs.Turns.{Seen}
use Rattle.octets_text.proofs.long_text.Given as goal

abbrev pub invariant-loop-i : goal.invariant-loop-i
invariant-loop-i l = Seen l.s l.bad l.largest l.i
