-- `lookup_last_loaded` refuses a message that is too long and then what the index is not built for. Else it reads under the index.
use mathlib.Core.Path.{◌∙◌}
use Rattle.std.proofs.lemmas.Result.{err_from_is_err_and}
use Rattle.table_index.specs.internal.Cells.{indexed}
use Rattle.message_calls.specs.Lookup.{lookup_last}
use Rattle.message_calls.specs.declared.outermost.Occurrence.TheVariants.{Last}
use Rattle.message_calls.proofs.Entries.{looking}
use Rattle.message_calls.proofs.Prologue.{loaded_long, loaded_refused, loaded_read}
use Rattle.message_calls.proofs.lookup_last_loaded.Goals as goal

pub returns-in_err-fits : goal.returns-in_err-fits
unfolding lookup_last
returns-in_err-fits c =
    let a = c.args in
    let q = err_from_is_err_and c.from_residual.result c.from_residual.ensures.1 in
    let p = c.in_err-fits.ensures in
    rw (q.1, q.2, p.1) (loaded_long (looking a.revision a.number a.message.now a.tag Last) a.t p.0)

pub returns-in_err-fill_table : goal.returns-in_err-fill_table
unfolding lookup_last
returns-in_err-fill_table c =
    let a = c.args in
    let q = err_from_is_err_and c.from_residual-in_err-fill_table.result c.from_residual-in_err-fill_table.ensures.1 in
    let h = c.in_ok-fits.ensures in
    let e = c.in_err-fill_table.ensures in
    rw (q.1, q.2) (loaded_refused (looking a.revision a.number a.message.now a.tag Last) h a.t _ _ e)

pub returns : goal.returns
unfolding lookup_last
returns c =
    let a = c.args in
    let h = c.in_ok-fits.ensures in
    c.look.ensures ∙ loaded_read (looking a.revision a.number a.message.now a.tag Last) h a.t (indexed c.fill_table.new.self.cells) c.in_ok-fill_table.ensures
