-- `check` refuses a message that is too long and then what the index is not built for. Else it reads under the index.
use mathlib.Core.Path.{◌∙◌}
use Rattle.std.proofs.lemmas.Result.{err_from_is_err_and}
use Rattle.octets.proofs.Number.{octets_of_slice}
use Rattle.table_index.specs.internal.Cells.{indexed}
use Rattle.message_calls.specs.Calls.{check_octets, short_octets}
use Rattle.message_calls.proofs.Entries.{checking, shortness}
use Rattle.message_calls.proofs.Prologue.{octets_long, octets_refused, octets_read}
use Rattle.message_calls.proofs.check.Goals as goal

pub returns-in_err-fits : goal.returns-in_err-fits
unfolding check_octets short_octets
returns-in_err-fits c =
    let a = c.args in
    let q = err_from_is_err_and c.from_residual.result c.from_residual.ensures.1 in
    let p = c.in_err-fits.ensures in
    record {
      checked_value = rw (q.1, q.2, p.1) (octets_long (checking a.revision a.number a.message.now) a.table.now p.0);
      shortest_value = rw q.1 (octets_long (shortness a.revision a.number a.message.now) a.table.now p.0);
    }

pub returns-in_err-fill_octets : goal.returns-in_err-fill_octets
unfolding check_octets short_octets
returns-in_err-fill_octets c =
    let a = c.args in
    let q = err_from_is_err_and c.from_residual-in_err-fill_octets.result c.from_residual-in_err-fill_octets.ensures.1 in
    let h = c.in_ok-fits.ensures in
    let e = c.in_err-fill_octets.ensures in
    record {
      checked_value = rw (q.1, q.2) (octets_refused (checking a.revision a.number a.message.now) h a.table.now _ _ e);
      shortest_value = rw q.1 (octets_refused (shortness a.revision a.number a.message.now) h a.table.now _ _ e);
    }

pub returns : goal.returns
unfolding check_octets short_octets
returns c =
    let a = c.args in
    let h = c.in_ok-fits.ensures in
    let o = octets_of_slice a.table.now (λ i. (c.type_inv.table i).fits) in
    record {
      checked_value = c.check.ensures.checked_value ∙ octets_read (checking a.revision a.number a.message.now) h a.table.now o (indexed c.fill_octets.new.self.cells) c.in_ok-fill_octets.ensures;
      shortest_value = c.check.ensures.shortest_value ∙ octets_read (shortness a.revision a.number a.message.now) h a.table.now o (indexed c.fill_octets.new.self.cells) c.in_ok-fill_octets.ensures;
    }
