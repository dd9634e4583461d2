-- `octets_text::long_text` meets its contract: at each turn the last three octets tell what is to come.
use Rattle.std.proofs.Common.{◌≡◌, ◌+◌, max, leb, length, get_or, arith, rules}
use Rattle.octets_text.proofs.Turns.{first_three, next_seen, all_seen}
use Rattle.octets_text.proofs.long_text.Goals as goal

pub loop-i-init : goal.loop-i-init
loop-i-init c =
    let k = c in
    let a = k.args in
    let s = a.s.now in
    let e : c.max-largest.result ≡ max (max (get_or s a.from 0) (get_or s (a.from + 1) 0)) (get_or s (a.from + 2) 0) = search rules in
    rw e (first_three s a.from c.wrong.result c.wrong-2.result c.wrong-3.result
    k.requires.passed k.requires.from_in_bounds c.wrong.ensures c.wrong-2.ensures c.wrong-3.ensures)

pub loop-i-preserved : goal.loop-i-preserved
loop-i-preserved c =
    let k = c in
    let e : c.max-largest-in-loop-i.result ≡ max k.loop-i.largest (get_or k.args.s.now k.loop-i.i 0) = search rules in
    rw e (next_seen k.args.s.now k.loop-i.bad k.loop-i.largest k.loop-i.i c.wrong-bad.result k.loop-i.invariant c.loop-i-test.true c.wrong-bad.ensures)

pub returns : goal.returns
returns c =
    let k = c in
    let e : length k.args.s.now ≡ k.loop-i.i = omega arith in
    all_seen k.args.s.now k.loop-i.bad k.loop-i.largest k.loop-i.i (leb 0x80 c.incomplete.result) k.loop-i.invariant
    (omega arith) (rw e at c.incomplete.ensures)
