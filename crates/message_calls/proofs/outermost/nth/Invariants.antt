use Prim.Native.Nat.{◌-◌}
use lib.ListN.{length}
use Rattle.message_calls.proofs.LookupLoop.{Sought}
use Rattle.message_calls.proofs.outermost.nth.Given as goal

abbrev pub invariant-loop-t : goal.invariant-loop-t
invariant-loop-t l = Sought l.tag l.s l.k l.i l.remaining

abbrev pub decreases-loop-t : goal.decreases-loop-t
decreases-loop-t l = length l.s - l.i
