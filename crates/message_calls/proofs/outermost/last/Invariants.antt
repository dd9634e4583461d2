use Prim.Native.Nat.{◌-◌}
use lib.ListN.{length}
use Rattle.message_calls.proofs.LookupLoop.{Latest}
use Rattle.message_calls.proofs.outermost.last.Given as goal

abbrev pub invariant-loop-seen : goal.invariant-loop-seen
invariant-loop-seen l = Latest l.tag l.s l.i l.best

abbrev pub decreases-loop-seen : goal.decreases-loop-seen
decreases-loop-seen l = length l.s - l.i
