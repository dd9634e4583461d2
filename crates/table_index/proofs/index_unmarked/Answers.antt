-- `index_unmarked` inserts records of eight octets one by one. It stops at the first one that is faulty or has a mark.
use Prim.Native.Nat.{◌+◌, ◌*◌}
use native.Mathlib.Omega.{arith}
use mathlib.Core.Path.{◌≡◌}
use Rattle.table_index.proofs.RecordLaws.{record_range}
use Rattle.table_index.proofs.InsertLoop.{octets_start, unmarked_stays, unmarked_continue}
use Rattle.table_index.proofs.index_unmarked.Goals as goal

pub loop-n-init : goal.loop-n-init
loop-n-init c = let a = c.args in λ revision. octets_start revision a.table.now a.cells.now

pub insert-requires : goal.insert-requires
insert-requires c =
    let l = c.loop-n in
    let r = c.in-Some in
    record {
      w_value = record_range c.args.table.now l.n (l.n * 8) (l.invariant 1).place (record { word = r.word; size = 8 }) r.ensures.is;
      i_bound = omega (arith, c.min-most.ensures);
    }

pub returns-then-not-insert : goal.returns-then-not-insert
returns-then-not-insert c =
    let a = c.args in
    let l = c.loop-n in
    let k = c.insert in
    let m = c.min-most.ensures in
    λ revision.
    unmarked_stays revision a.table.now a.cells.now l.n (l.n * 8) l.cells (l.invariant revision) (omega (arith, m)) c.in-Some.ensures k.ensures.value k.ensures.cells_after
    c.if-not-insert.true

pub loop-n-preserved : goal.loop-n-preserved
loop-n-preserved c =
    let a = c.args in
    let l = c.loop-n in
    let k = c.insert in
    let m = c.min-most.ensures in
    λ revision.
    unmarked_continue revision a.table.now a.cells.now l.n (l.n * 8) l.cells (l.invariant revision) (omega (arith, m)) c.in-Some.ensures k.ensures.value k.ensures.cells_after
    ((l.n + 1) * 8) (omega arith) c.if-not-insert.false

pub returns : goal.returns
returns c =
    let l = c.loop-n in
    let all : l.n ≡ c.min-most.result = omega arith in
    λ revision. rw (← all) (l.invariant revision)
