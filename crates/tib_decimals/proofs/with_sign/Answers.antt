-- `tib_decimals::with_sign` meets its contract.
use native.Mathlib.Omega.{arith}
use mathlib.Core.Path.{◌≡◌}
use mir.Syntax.{w64}
use mir.ValLaws.{to_z_pos}
use Rattle.octets_read.proofs.Signs.{minus_fits, minus_is}
use Rattle.tib_real.specs.WholeNumber.{signed}
use Rattle.tib_decimals.proofs.with_sign.Goals as goal
use Rattle.tib_decimals.proofs.with_sign.Goals.{Else-sign-eq0}

-- A sign that is not 0 is 1.
minus : (c : Else-sign-eq0) → c.args.sign ≡ 1
minus c = omega arith

pub returns-then-sign-eq0 : goal.returns-then-sign-eq0
unfolding signed
returns-then-sign-eq0 c = let s = c in rw c.if-sign-eq0.true (to_z_pos w64 s.args.n (omega arith))

pub returns-then-n-eq0 : goal.returns-then-n-eq0
unfolding signed
returns-then-n-eq0 c = rw (minus (goal.at.returns-then-n-eq0 c).Else-sign-eq0, c.if-n-eq0.true)

pub overflow_sub-result : goal.overflow_sub-result
overflow_sub-result c = minus_fits c.args.n (omega arith) (omega arith)

pub returns : goal.returns
unfolding signed
returns c = rw (minus (goal.at.returns c).Else-sign-eq0) (minus_is c.args.n (omega arith) (omega arith))
