-- `octets_put::put_big_endian` meets its contract: at each turn the last octets of the number are stored.
use native.Mathlib.Omega.{arith}
use Rattle.octets_put.proofs.Digits.{begun_down, step_down}
use Rattle.octets_put.proofs.put_big_endian.Goals as goal

pub loop-i-init : goal.loop-i-init
loop-i-init c = let a = c.args in begun_down a.out.now a.at a.n a.v c.requires

pub loop-i-preserved : goal.loop-i-preserved
loop-i-preserved c =
    let a = c.args in
    let l = c.loop-i in
    step_down a.out.now a.at a.n a.v l.out l.rest l.i (omega arith) (omega arith) l.invariant
