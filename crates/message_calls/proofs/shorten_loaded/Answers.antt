-- `shorten_loaded` refuses a message that is too long and then what the index is not built for. Else it reads under the index.
use mathlib.Core.Path.{◌∙◌}
use Rattle.std.proofs.lemmas.Result.{err_from_is_err_and}
use Rattle.table_index.specs.internal.Cells.{indexed}
use Rattle.message_calls.proofs.Entries.{shortening, buffering}
use Rattle.message_calls.proofs.Prologue.{loaded_long, loaded_refused, loaded_read}
use Rattle.message_calls.proofs.shorten_loaded.Goals as goal

pub returns-in_err-fits : goal.returns-in_err-fits
returns-in_err-fits c =
    let a = c.args in
    let q = err_from_is_err_and c.from_residual.result c.from_residual.ensures.1 in
    let p = c.in_err-fits.ensures in
    record {
      value = rw (q.1, q.2, p.1) (loaded_long (shortening a.revision a.number a.message.now a.out.now) a.t p.0);
      out_after = loaded_long (buffering a.revision a.number a.message.now a.out.now) a.t p.0;
    }

pub returns-in_err-fill_table : goal.returns-in_err-fill_table
returns-in_err-fill_table c =
    let a = c.args in
    let q = err_from_is_err_and c.from_residual-in_err-fill_table.result c.from_residual-in_err-fill_table.ensures.1 in
    let h = c.in_ok-fits.ensures in
    let e = c.in_err-fill_table.ensures in
    record {
      value = rw (q.1, q.2) (loaded_refused (shortening a.revision a.number a.message.now a.out.now) h a.t _ _ e);
      out_after = loaded_refused (buffering a.revision a.number a.message.now a.out.now) h a.t _ _ e;
    }

pub returns : goal.returns
returns c =
    let a = c.args in
    let h = c.in_ok-fits.ensures in
    record {
      value = c.shorten.ensures.value ∙ loaded_read (shortening a.revision a.number a.message.now a.out.now) h a.t (indexed c.fill_table.new.self.cells) c.in_ok-fill_table.ensures;
      out_after = c.shorten.ensures.out_after ∙ loaded_read (buffering a.revision a.number a.message.now a.out.now) h a.t (indexed c.fill_table.new.self.cells) c.in_ok-fill_table.ensures;
    }
