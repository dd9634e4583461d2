-- `text_show::parts` meets its contract.
use Rattle.std.proofs.Common.{◌∙◌}
use Rattle.std.proofs.lemmas.Result.{err_from_is_err_and}
use Rattle.text_show.proofs.Order.{too_long_lem, not_too_long}
use Rattle.text_show.proofs.parts.Goals as goal

pub returns-then-input-gt-MESSAGE_LIMIT : goal.returns-then-input-gt-MESSAGE_LIMIT
returns-then-input-gt-MESSAGE_LIMIT c = rw c.at.ensures (too_long_lem c.args.input.now c.if-input-gt-MESSAGE_LIMIT.true)

pub returns-in_err-table : goal.returns-in_err-table
returns-in_err-table c =
    let p = err_from_is_err_and c.from_residual.result c.from_residual.ensures.1 in
    rw (p.1, p.2) (c.in_err-table.ensures ∙ not_too_long c.args.input.now c.if-input-gt-MESSAGE_LIMIT.false)

pub returns-in_err-message : goal.returns-in_err-message
returns-in_err-message c =
    let p = err_from_is_err_and c.from_residual-in_err-message.result c.from_residual-in_err-message.ensures.1 in
    rw (p.1, p.2) (c.in_err-message.ensures c.in_ok-table.table ∙ c.in_ok-table.ensures ∙ not_too_long c.args.input.now c.if-input-gt-MESSAGE_LIMIT.false)

pub returns : goal.returns
returns c = c.in_ok-message.ensures c.in_ok-table.table ∙ c.in_ok-table.ensures ∙ not_too_long c.args.input.now c.if-input-gt-MESSAGE_LIMIT.false
