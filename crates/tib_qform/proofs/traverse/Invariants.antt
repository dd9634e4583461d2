-- `tib_qform::traverse` meets its contract: at each turn the fields passed stand before those of the rest.
use Prim.Native.Nat.{◌-◌}
use lib.ListN.{length}
use Rattle.tib_qform.proofs.TraverseLoop.{State}
use Rattle.tib_qform.proofs.traverse.Given as goal

abbrev pub invariant-loop-i : goal.invariant-loop-i
invariant-loop-i l = State l.cells l.s l.i l.fields

abbrev pub decreases-loop-i : goal.decreases-loop-i
decreases-loop-i l = length l.s - l.i
