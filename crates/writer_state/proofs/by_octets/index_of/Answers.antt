-- `index_of` meets its contract: the faulty record, or the index of the octets.
use mathlib.Core.Path.{refl}
use Rattle.octets.proofs.Number.{octets_of_slice}
use Rattle.writer_state.proofs.ByOctets.{index_refused, index_loads, index_filled, valid_loaded}
use Rattle.writer_state.proofs.by_octets.index_of.Goals as goal

pub returns-then-end-table : goal.returns-then-end-table
returns-then-end-table c =
    let a = c.args in
    let x = c.index-end in
    rw c.at.ensures (refl, index_refused a.table.now a.revision x.result x.ensures.value c.if-end-table.true)

pub returns : goal.returns
returns c =
    let a = c.args in
    let x = c.index-end in
    let o = octets_of_slice a.table.now (λ i. (c.type_inv.table i).fits) in
    let l = index_loads a.table.now a.revision x.result x.ensures.value c.if-end-table.false in
    record {
      loads = l;
      good = valid_loaded a.table.now o l;
      filled = index_filled a.table.now a.revision x.result x.ensures.value c.if-end-table.false o x.ensures.cells_after;
    }
