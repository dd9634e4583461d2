-- `check_loaded` refuses a message that is too long and then what the index is not built for. Else it reads under the index.
use mathlib.Core.Path.{◌∙◌}
use Rattle.std.proofs.lemmas.Result.{err_from_is_err_and}
use Rattle.table_index.specs.internal.Cells.{indexed}
use Rattle.message_calls.proofs.Entries.{checking, shortness}
use Rattle.message_calls.proofs.Prologue.{loaded_long, loaded_refused, loaded_read}
use Rattle.message_calls.proofs.check_loaded.Goals as goal

pub returns-in_err-fits : goal.returns-in_err-fits
returns-in_err-fits c =
    let a = c.args in
    let q = err_from_is_err_and c.from_residual.result c.from_residual.ensures.1 in
    let p = c.in_err-fits.ensures in
    record {
      checked_value = rw (q.1, q.2, p.1) (loaded_long (checking a.revision a.number a.message.now) a.t p.0);
      shortest_value = rw q.1 (loaded_long (shortness a.revision a.number a.message.now) a.t p.0);
    }

pub returns-in_err-fill_table : goal.returns-in_err-fill_table
returns-in_err-fill_table c =
    let a = c.args in
    let q = err_from_is_err_and c.from_residual-in_err-fill_table.result c.from_residual-in_err-fill_table.ensures.1 in
    let h = c.in_ok-fits.ensures in
    let e = c.in_err-fill_table.ensures in
    record {
      checked_value = rw (q.1, q.2) (loaded_refused (checking a.revision a.number a.message.now) h a.t _ _ e);
      shortest_value = rw q.1 (loaded_refused (shortness a.revision a.number a.message.now) h a.t _ _ e);
    }

pub returns : goal.returns
returns c =
    let a = c.args in
    let h = c.in_ok-fits.ensures in
    record {
      checked_value = c.check.ensures.checked_value ∙ loaded_read (checking a.revision a.number a.message.now) h a.t (indexed c.fill_table.new.self.cells) c.in_ok-fill_table.ensures;
      shortest_value = c.check.ensures.shortest_value ∙ loaded_read (shortness a.revision a.number a.message.now) h a.t (indexed c.fill_table.new.self.cells) c.in_ok-fill_table.ensures;
    }
