-- `shorten` refuses a message that is too long and then what the index is not built for. Else it reads under the index.
use mathlib.Core.Path.{◌∙◌}
use Rattle.std.proofs.lemmas.Result.{err_from_is_err_and}
use Rattle.octets.proofs.Number.{octets_of_slice}
use Rattle.table_index.specs.internal.Cells.{indexed}
use Rattle.message_calls.specs.Calls.{shorten_octets, shorten_buffer}
use Rattle.message_calls.proofs.Entries.{shortening, buffering}
use Rattle.message_calls.proofs.Prologue.{octets_long, octets_refused, octets_read}
use Rattle.message_calls.proofs.shorten.Goals as goal

pub returns-in_err-fits : goal.returns-in_err-fits
unfolding shorten_octets shorten_buffer
returns-in_err-fits c =
    let a = c.args in
    let q = err_from_is_err_and c.from_residual.result c.from_residual.ensures.1 in
    let p = c.in_err-fits.ensures in
    record {
      value = rw (q.1, q.2, p.1) (octets_long (shortening a.revision a.number a.message.now a.out.now) a.table.now p.0);
      out_after = octets_long (buffering a.revision a.number a.message.now a.out.now) a.table.now p.0;
    }

pub returns-in_err-fill_octets : goal.returns-in_err-fill_octets
unfolding shorten_octets shorten_buffer
returns-in_err-fill_octets c =
    let a = c.args in
    let q = err_from_is_err_and c.from_residual-in_err-fill_octets.result c.from_residual-in_err-fill_octets.ensures.1 in
    let h = c.in_ok-fits.ensures in
    let e = c.in_err-fill_octets.ensures in
    record {
      value = rw (q.1, q.2) (octets_refused (shortening a.revision a.number a.message.now a.out.now) h a.table.now _ _ e);
      out_after = octets_refused (buffering a.revision a.number a.message.now a.out.now) h a.table.now _ _ e;
    }

pub returns : goal.returns
unfolding shorten_octets shorten_buffer
returns c =
    let a = c.args in
    let h = c.in_ok-fits.ensures in
    let o = octets_of_slice a.table.now (λ i. (c.type_inv.table i).fits) in
    record {
      value = c.shorten.ensures.value ∙ octets_read (shortening a.revision a.number a.message.now a.out.now) h a.table.now o (indexed c.fill_octets.new.self.cells) c.in_ok-fill_octets.ensures;
      out_after = c.shorten.ensures.out_after ∙ octets_read (buffering a.revision a.number a.message.now a.out.now) h a.table.now o (indexed c.fill_octets.new.self.cells) c.in_ok-fill_octets.ensures;
    }
