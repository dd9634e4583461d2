-- `octets_text::any_of` meets its contract: at each turn the bits are those of the octets so far.
use Rattle.std.proofs.Common.{◌≡◌}
use Rattle.octets_text.specs.internal.Plain.{any_of}
use Rattle.octets_text.proofs.any_of.Given as goal

abbrev pub invariant-loop-x : goal.invariant-loop-x
invariant-loop-x g l = l.any ≡ any_of l.block 0 l.x-index
