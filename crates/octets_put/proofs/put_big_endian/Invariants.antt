-- `octets_put::put_big_endian` meets its contract: at each turn the last octets of the number are stored.
use Prim.Native.Nat.{◌-◌}
use Rattle.octets_put.proofs.Digits.{NumberDown}
use Rattle.octets_put.proofs.put_big_endian.Given as goal

abbrev pub invariant-loop-i : goal.invariant-loop-i
invariant-loop-i l = NumberDown l.initial.out l.at l.n l.v l.out l.rest (l.n - l.i)
