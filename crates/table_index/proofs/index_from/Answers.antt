-- `index_from` inserts the records one by one, up to the first faulty one.
use native.Mathlib.Omega.{arith}
use native.Mathlib.Numerals.{add-one}
use Rattle.table_index.proofs.RecordLaws.{record_range, record_next, record_within}
use Rattle.table_index.proofs.Revisions.{range_under}
use Rattle.table_index.proofs.InsertLoop.{octets_end, octets_bad, octets_repeated, octets_continue}
use Rattle.table_index.proofs.index_from.Goals as goal

pub returns-in_default : goal.returns-in_default
returns-in_default c =
    let a = c.args in
    let l = c.loop-n in
    λ zeros k.
    octets_bad a.revision a.table.now zeros l.n l.at l.cells (l.invariant.inserted zeros k) (omega arith) c.in_default.ensures

pub insert-requires : goal.insert-requires
insert-requires c =
    let a = c.args in
    let l = c.loop-n in
    let r = c.in-Some in
    let range = record_range a.table.now l.n l.at l.invariant.place r.record r.ensures in
    record { w_value = rw c.under.ensures (range_under a.revision r.record.word range); i_bound = omega arith }

pub returns-then-not-insert : goal.returns-then-not-insert
returns-then-not-insert c =
    let a = c.args in
    let l = c.loop-n in
    let k = c.insert in
    let r = c.in-Some in
    λ zeros p.
    octets_repeated a.revision a.table.now zeros l.n l.at l.cells (l.invariant.inserted zeros p) (omega arith) r.record r.ensures c.under.ensures k.ensures.value
    k.ensures.cells_after c.if-not-insert.true

pub overflow_add-at : goal.overflow_add-at
overflow_add-at c =
    let l = c.loop-n in
    omega (arith, record_within c.args.table.now l.n l.at l.invariant.place c.in-Some.record c.in-Some.ensures)

pub loop-n-preserved : goal.loop-n-preserved
loop-n-preserved c =
    let a = c.args in
    let l = c.loop-n in
    let k = c.insert in
    let r = c.in-Some in
    record {
      inserted = λ zeros p.
          octets_continue a.revision a.table.now zeros l.n l.at l.cells (l.invariant.inserted zeros p) (omega arith) r.record r.ensures c.under.ensures k.ensures.value
          k.ensures.cells_after c.if-not-insert.false;
      place = rw (add-one l.n) (record_next a.table.now l.n l.at l.invariant.place r.record r.ensures);
      within = record_within a.table.now l.n l.at l.invariant.place r.record r.ensures;
    }

pub returns : goal.returns
returns c =
    let a = c.args in
    let l = c.loop-n in
    λ zeros k. octets_end a.revision a.table.now zeros l.n l.at l.cells (l.invariant.inserted zeros k) (omega arith)
