-- `close_field_by_octets` meets its contract: each refusal in its order, then the close.
use mathlib.Core.Path.{sym}
use Rattle.std.proofs.lemmas.Result.{err_from_is_err_and}
use Rattle.writer_nesting.proofs.Closes.{octets_unusable, octets_faulty, octets_closed}
use Rattle.writer_nesting.proofs.by_octets.close_field_by_octets.Goals as goal

pub returns-then-not-usable : goal.returns-then-not-usable
returns-then-not-usable c =
    let a = c.args in
    let p = octets_unusable a.table.now a.s a.out.now (sym c.if-not-usable.ensures) in
    record { value = rw c.at.ensures p.value; out_after = p.out_after }

pub returns-in_err-_cells : goal.returns-in_err-_cells
returns-in_err-_cells c =
    let a = c.args in
    let e = c.in_err-_cells.ensures in
    let r = err_from_is_err_and c.from_residual.result c.from_residual.ensures.1 in
    let p = octets_faulty a.table.now a.s a.out.now (sym c.if-not-usable.ensures) c.in_err-_cells.field-0.0 e.0 e.1 in
    record { value = rw (r.1, r.2) p.value; out_after = p.out_after }

pub returns : goal.returns
returns c =
    let a = c.args in
    let f = c.close_usable.ensures in
    let p = octets_closed a.table.now a.s a.out.now (sym c.if-not-usable.ensures) c.in_ok-_cells.ensures f.value f.out_after in
    record { value = p.value; out_after = p.out_after }
