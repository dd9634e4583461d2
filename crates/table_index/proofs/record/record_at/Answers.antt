-- `record_at` returns what its definition says, at each return by the octets looked at before it.
use native.Mathlib.Omega.{arith}
use mathlib.Core.Path.{◌∙◌}
use Rattle.table_index.proofs.RecordLaws.{wrong_short, wrong_tag, wrong_length, wrong_cut, right_five, right_six}
use Rattle.table_index.proofs.record.record_at.Goals as goal

pub returns-then-remaining-lt8 : goal.returns-then-remaining-lt8
returns-then-remaining-lt8 c =
    let a = c.args in
    wrong_short a.s.now a.at (omega (arith, c.if-remaining-lt8.true)) (omega arith)

pub returns-then-s-at-ne1 : goal.returns-then-s-at-ne1
returns-then-s-at-ne1 c =
    let a = c.args in
    wrong_tag a.s.now a.at c.if-s-at-ne1.true

pub returns-then-length-eq5 : goal.returns-then-length-eq5
returns-then-length-eq5 c =
    let a = c.args in
    c.sized_word.ensures
    ∙ right_five a.s.now a.at c.announced-length.ensures c.if-s-at-ne1.false c.five-unmarked.ensures.0 c.if-length-eq5.true (omega (arith, c.if-remaining-lt8.false))

pub returns-then-length-ne6 : goal.returns-then-length-ne6
returns-then-length-ne6 c =
    let a = c.args in
    wrong_length a.s.now a.at c.announced-length.ensures c.if-length-eq5.false c.if-length-ne6.true

pub returns-in_err-mark : goal.returns-in_err-mark
returns-in_err-mark c =
    let a = c.args in
    let past = c.in_err-mark.ensures.lookup.3 in
    c.from_residual.ensures
    ∙ wrong_cut a.s.now a.at c.announced-length.ensures c.if-length-ne6.false (omega (arith, past)) (omega arith)

pub returns : goal.returns
returns c =
    let a = c.args in
    let mark = c.in_ok-mark.ensures.lookup.3 in
    c.sized_word-2.ensures
    ∙ right_six a.s.now a.at c.announced-length.ensures c.if-s-at-ne1.false c.five-unmarked.ensures.0 c.if-length-ne6.false (omega (arith, mark.0)) (c.from.ensures ∙ mark.1 0)
