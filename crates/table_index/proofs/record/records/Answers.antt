-- `records` stores the words in the order of the records, up to the first that is not well-formed.
use native.Mathlib.Omega.{arith}
use mathlib.Core.Path.{◌≡◌}
use Rattle.table_index.proofs.LoadLaws.{records_start, records_continue, records_stop, records_end}
use Rattle.table_index.proofs.record.records.Goals as goal

pub loop-n-init : goal.loop-n-init
loop-n-init c = records_start c.args.s.now

pub returns-in_default : goal.returns-in_default
returns-in_default c =
    let l = c.loop-n in
    records_stop c.args.s.now l.n l.words l.at l.invariant c.in_default.ensures

pub overflow_add-at : goal.overflow_add-at
overflow_add-at c =
    let l = c.loop-n in
    let k = records_continue c.args.s.now l.n l.words l.at c.in-Some.record l.invariant (omega arith) c.in-Some.ensures in
    omega (arith, k.within)

pub loop-n-preserved : goal.loop-n-preserved
loop-n-preserved c =
    let l = c.loop-n in
    records_continue c.args.s.now l.n l.words l.at c.in-Some.record l.invariant (omega arith) c.in-Some.ensures

pub returns : goal.returns
returns c =
    let l = c.loop-n in
    let all : l.n ≡ 64 = omega (arith, l.invariant.few) in
    rw (← all) (records_end c.args.s.now l.n l.words l.at l.invariant (omega arith))
