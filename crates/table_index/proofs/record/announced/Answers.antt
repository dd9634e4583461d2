-- `announced` returns the number in the two octets of a record's length.
use native.Mathlib.Omega.{arith}
use Rattle.table_index.proofs.RecordLaws.{announced_read}
use Rattle.table_index.proofs.record.announced.Goals as goal

pub returns : goal.returns
returns c =
    let a = c.args in
    announced_read a.s.now a.at c.from.result c.from-2.result (omega arith) c.from.ensures c.from-2.ensures
