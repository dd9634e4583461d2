-- `tib_qform::find` meets its contract: at each turn the field that is looked for is among those that remain.
use Prim.Native.Nat.{◌-◌}
use lib.ListN.{length}
use Rattle.tib_qform.proofs.Kths.{Seeking}
use Rattle.tib_qform.proofs.find.Given as goal

abbrev pub invariant-loop-i : goal.invariant-loop-i
invariant-loop-i l = Seeking l.cells l.s l.k l.i l.remaining

abbrev pub decreases-loop-i : goal.decreases-loop-i
decreases-loop-i l = length l.s - l.i
