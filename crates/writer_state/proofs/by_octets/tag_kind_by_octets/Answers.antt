-- `tag_kind_by_octets` meets its contract: each refusal in its order, then what the index of the octets says.
use mathlib.Core.Path.{refl, sym}
use Rattle.octets.proofs.Number.{octets_of_slice}
use Rattle.reading.specs.declared.Refusal.TheVariants.{Table}
use Rattle.writer_state.specs.internal.Tags.{wanted_number}
use Rattle.writer_state.proofs.ByOctets.{index_refused, index_loads, index_filled, valid_loaded, tag_unusable, tag_faulty, tag_loaded}
use Rattle.writer_state.proofs.by_octets.tag_kind_by_octets.Goals as goal

pub returns-then-not-usable : goal.returns-then-not-usable
returns-then-not-usable c =
    let a = c.args in
    rw c.at.ensures (tag_unusable a.table.now a.s a.len a.tag (wanted_number a.wanted) (sym c.if-not-usable.ensures))

pub returns-then-read-table : goal.returns-then-read-table
returns-then-read-table c =
    let a = c.args in
    let x = c.index-read in
    rw c.at-then-read-table.ensures
    (tag_faulty a.table.now a.s a.len a.tag (wanted_number a.wanted) (sym c.if-not-usable.ensures)
    (record { refusal = Table; place = x.result }) refl
    (index_refused a.table.now a.s.revision x.result x.ensures.value c.if-read-table.true))

pub returns : goal.returns
returns c =
    let a = c.args in
    let x = c.index-read in
    let o = octets_of_slice a.table.now (λ i. (c.type_inv.table i).fits) in
    let l = index_loads a.table.now a.s.revision x.result x.ensures.value c.if-read-table.false in
    tag_loaded a.table.now a.s a.len a.tag (wanted_number a.wanted) (sym c.if-not-usable.ensures)
    (record {
      loads = l;
      good = valid_loaded a.table.now o l;
      filled = index_filled a.table.now a.s.revision x.result x.ensures.value c.if-read-table.false o x.ensures.cells_after;
    })
    c.tag_under.ensures
