-- `octets_text::short_text` meets its contract: the octets passed are whole characters, so that the rest decides.
use Rattle.std.proofs.Common.{◌≡◌, length}
use Rattle.octets.specs.Text.{text}
use Rattle.octets_text.proofs.short_text.Given as goal

abbrev pub invariant-loop-rest : goal.invariant-loop-rest
invariant-loop-rest l = text l.rest ≡ text l.s

abbrev pub decreases-loop-rest : goal.decreases-loop-rest
decreases-loop-rest l = length l.rest
