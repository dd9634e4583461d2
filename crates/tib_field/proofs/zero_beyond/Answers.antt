-- `tib_field::zero_beyond` meets its contract: at each turn none of the places passed has a zero.
use native.Mathlib.Omega.{arith}
use Rattle.tib_field.proofs.Zeros.{sixteen_told, sixteen_zero, sixteen_none}
use Rattle.tib_field.proofs.zero_beyond.Goals as goal

pub loop-k-init : goal.loop-k-init
loop-k-init c = c.requires.2

pub returns-then-zero_of_sixteen : goal.returns-then-zero_of_sixteen
returns-then-zero_of_sixteen c =
    sixteen_zero _ _ _ c.loop-k.invariant _ _ c.zero_of_sixteen.ensures (omega arith) (omega arith) (omega arith) c.if-zero_of_sixteen.true

pub loop-k-preserved : goal.loop-k-preserved
loop-k-preserved c =
    sixteen_none _ _ _ c.loop-k.invariant _ _ c.zero_of_sixteen.ensures (omega arith) (omega arith) (omega arith) c.if-zero_of_sixteen.false _
    (omega arith)

pub returns : goal.returns
returns c = sixteen_told _ _ _ c.loop-k.invariant _ _ c.zero_of_sixteen-2.ensures (omega arith) (omega arith) (omega arith) _ (omega arith)
