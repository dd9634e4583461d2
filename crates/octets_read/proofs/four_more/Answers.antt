-- `octets_read::four_more` meets its contract.
use native.Mathlib.Omega.{arith}
use Rattle.octets_read.proofs.Numbers.{all_octets}
use Rattle.octets_read.proofs.four_more.Goals as goal

pub returns : goal.returns
returns c =
    let b = c in
    all_octets b.args.s.now c.one_more.result 8 (omega arith) c.one_more.ensures
