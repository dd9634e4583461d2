-- `start_by_octets` meets its contract: a buffer over the limit, a faulty table, or the answer for the revision and the number.
use mathlib.Core.Path.{◌∙◌}
use lib.ListN.{length}
use Rattle.std.proofs.lemmas.Result.{err_from_is_err_and}
use Rattle.writer_state.proofs.ByOctets.{start_long, start_faulty, start_loaded}
use Rattle.writer_state.proofs.by_octets.start_by_octets.Goals as goal

pub returns-then-out-gt-MESSAGE_LIMIT : goal.returns-then-out-gt-MESSAGE_LIMIT
returns-then-out-gt-MESSAGE_LIMIT c =
    let a = c.args in
    rw c.at.ensures (start_long a.table.now a.revision a.number (length a.out.now) c.if-out-gt-MESSAGE_LIMIT.true)

pub returns-in_err-index_of : goal.returns-in_err-index_of
returns-in_err-index_of c =
    let a = c.args in
    let e = c.in_err-index_of.ensures in
    let p = err_from_is_err_and c.from_residual.result c.from_residual.ensures.1 in
    rw (p.1, p.2)
    (start_faulty a.table.now a.revision a.number (length a.out.now) c.if-out-gt-MESSAGE_LIMIT.false c.in_err-index_of.field-0.0 e.0 e.1)

pub returns : goal.returns
returns c =
    let a = c.args in
    c.begin.ensures ∙ start_loaded a.table.now a.revision a.number (length a.out.now) c.if-out-gt-MESSAGE_LIMIT.false c.in_ok-index_of.ensures
