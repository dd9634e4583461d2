-- `tib_field::zero_beyond` meets its contract: at each turn none of the places passed has a zero.
use Prim.Native.Nat.{◌+◌, ◌*◌}
use mathlib.Core.Bool.{false}
use Rattle.tib_field.specs.internal.Zeros.{ZeroIn}
use Rattle.tib_field.proofs.zero_beyond.Given as goal

abbrev pub invariant-loop-k : goal.invariant-loop-k
invariant-loop-k l = ZeroIn false l.s 1 (17 + 16 * l.k) l.n
