-- `lookup` refuses a message that is too long and then what the index is not built for. Else it reads under the index.
use mathlib.Core.Path.{◌∙◌}
use Rattle.std.proofs.lemmas.Result.{err_from_is_err_and}
use Rattle.octets.proofs.Number.{octets_of_slice}
use Rattle.table_index.specs.internal.Cells.{indexed}
use Rattle.message_calls.specs.Calls.{lookup_octets}
use Rattle.message_calls.specs.Lookup.{lookup}
use Rattle.message_calls.specs.declared.outermost.Occurrence.TheVariants.{Nth}
use Rattle.message_calls.proofs.Entries.{looking}
use Rattle.message_calls.proofs.Prologue.{octets_long, octets_refused, octets_read}
use Rattle.message_calls.proofs.lookup.Goals as goal

pub returns-in_err-fits : goal.returns-in_err-fits
unfolding lookup_octets lookup
returns-in_err-fits c =
    let a = c.args in
    let q = err_from_is_err_and c.from_residual.result c.from_residual.ensures.1 in
    let p = c.in_err-fits.ensures in
    rw (q.1, q.2, p.1) (octets_long (looking a.revision a.number a.message.now a.tag (Nth a.k)) a.table.now p.0)

pub returns-in_err-fill_octets : goal.returns-in_err-fill_octets
unfolding lookup_octets lookup
returns-in_err-fill_octets c =
    let a = c.args in
    let q = err_from_is_err_and c.from_residual-in_err-fill_octets.result c.from_residual-in_err-fill_octets.ensures.1 in
    let h = c.in_ok-fits.ensures in
    let e = c.in_err-fill_octets.ensures in
    rw (q.1, q.2) (octets_refused (looking a.revision a.number a.message.now a.tag (Nth a.k)) h a.table.now _ _ e)

pub returns : goal.returns
unfolding lookup_octets lookup
returns c =
    let a = c.args in
    let h = c.in_ok-fits.ensures in
    let o = octets_of_slice a.table.now (λ i. (c.type_inv.table i).fits) in
    c.look.ensures ∙ octets_read (looking a.revision a.number a.message.now a.tag (Nth a.k)) h a.table.now o (indexed c.fill_octets.new.self.cells) c.in_ok-fill_octets.ensures
