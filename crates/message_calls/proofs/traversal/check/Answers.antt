-- `check` refuses a message over the limit and a number over 15, and traverses any other.
use native.Mathlib.Omega.{arith}
use mathlib.Core.Path.{◌∙◌}
use Rattle.std.proofs.lemmas.Result.{err_from_is_err_and}
use Rattle.reading.specs.Checks.{refusal}
use Rattle.octets.proofs.Number.{octets_of_slice}
use Rattle.table_index.specs.internal.Cells.{indexed}
use Rattle.message.specs.Reading.{reading}
use Rattle.message_calls.specs.internal.Verdicts.{returned}
use Rattle.message_calls.proofs.CheckAnswers.{too-long-under, bad_number, by-verdict}
use Rattle.message_calls.proofs.ShortAnswers.{refused-not-short-under, short-by-reading}
use Rattle.message_calls.proofs.Numbers.{numbers_by_verdict}
use Rattle.message_calls.proofs.traversal.check.Goals as goal

pub returns-in_err-fits : goal.returns-in_err-fits
unfolding refusal
returns-in_err-fits c =
    let a = c.args in
    let sc = indexed a.index.now.cells in
    let q = err_from_is_err_and c.from_residual.result c.from_residual.ensures.1 in
    let p = c.in_err-fits.ensures in
    let e = too-long-under sc a.number a.message.now p.0 in
    record { checked_value = rw (q.1, q.2, p.1) e; shortest_value = rw q.1 (refused-not-short-under sc a.number a.message.now _ e (λ z. omega arith)) }

pub returns-then-number-gt-LAST_NUMBER : goal.returns-then-number-gt-LAST_NUMBER
unfolding refusal
returns-then-number-gt-LAST_NUMBER c =
    let a = c.args in
    let sc = indexed a.index.now.cells in
    let e = bad_number sc a.number a.message.now c.in_ok-fits.ensures c.if-number-gt-LAST_NUMBER.true in
    record { checked_value = rw c.at.ensures e; shortest_value = refused-not-short-under sc a.number a.message.now _ e (λ z. omega arith) }

pub returns : goal.returns
unfolding reading
returns c =
    let a = c.args in
    let m = a.message.now in
    let sc = indexed a.index.now.cells in
    let o = octets_of_slice m (λ i. (c.type_inv.message i).fits) in
    let n = c.traverse in
    let h = c.in_ok-fits.ensures in
    let k = c.if-number-gt-LAST_NUMBER.false in
    record {
      checked_value = numbers_by_verdict n.result ∙ by-verdict sc a.number m h k (returned n.result) n.ensures.verdict_value;
      shortest_value = n.ensures.shortest_value ∙ short-by-reading sc a.number m o h k;
    }
