-- `octets_text::wrong` meets its contract.
use Rattle.std.proofs.Common.{rules}
use Rattle.octets_text.proofs.Judging.{wrong_is}
use Rattle.octets_text.proofs.wrong.Goals as goal

pub returns : goal.returns
returns c =
    let k = c in
    let w = c.incomplete in
    let o = c.wrong_second in
    rw (c.mask-2.ensures, c.mask.ensures, c.is_tail.ensures)
    (wrong_is k.args.a k.args.b k.args.c k.args.x w.result o.result (search rules) w.ensures o.ensures.result_value o.ensures.value)
