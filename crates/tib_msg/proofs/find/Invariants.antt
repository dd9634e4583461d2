-- `tib_msg::find` meets its contract: at each turn the field that is looked for is among those that remain.
use Prim.Native.Nat.{◌-◌}
use lib.ListN.{length}
use Rattle.tib_msg.proofs.Kths.{Going}
use Rattle.tib_msg.proofs.find.Given as goal

abbrev pub invariant-loop-i : goal.invariant-loop-i
invariant-loop-i l = Going l.s l.k l.i l.remaining

abbrev pub decreases-loop-i : goal.decreases-loop-i
decreases-loop-i l = length l.s - l.i
