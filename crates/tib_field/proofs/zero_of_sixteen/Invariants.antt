-- `tib_field::zero_of_sixteen` meets its contract: at each turn the places passed are told.
use Prim.Native.Nat.{◌+◌}
use Rattle.tib_field.specs.internal.Zeros.{ZeroIn}
use Rattle.tib_field.proofs.zero_of_sixteen.Given as goal

abbrev pub invariant-loop-i : goal.invariant-loop-i
invariant-loop-i l = ZeroIn l.z l.s l.at (l.at + l.i) (l.at + 16)
