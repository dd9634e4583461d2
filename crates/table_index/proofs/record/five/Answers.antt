-- `five` returns the number in five octets.
use Prim.Native.Nat.{◌+◌}
use native.Mathlib.Omega.{arith}
use Rattle.table_index.proofs.RecordLaws.{five_read}
use Rattle.table_index.proofs.record.five.Goals as goal

pub returns : goal.returns
returns c =
    let a = c.args in
    let t = c.type_inv.s in
    let n = c.from_be_bytes in
    (five_read a.s.now a.at n.result (omega arith) n.ensures, omega (arith, n.ensures, t a.at, t (a.at + 1), t (a.at + 2), t (a.at + 3), t (a.at + 4)))
