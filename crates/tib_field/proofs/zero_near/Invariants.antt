-- `tib_field::zero_near` meets its contract: at each turn the places passed are told.
use Rattle.tib_field.specs.internal.Zeros.{ZeroIn}
use Rattle.tib_field.proofs.zero_near.Given as goal

abbrev pub invariant-loop-i : goal.invariant-loop-i
invariant-loop-i l = ZeroIn l.z l.s 1 l.i l.n
