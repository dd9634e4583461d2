-- `tib_msg_field::from_data` meets its contract.
use native.Mathlib.Omega.{arith}
use mathlib.Core.Path.{ap}
use Rattle.std.proofs.lemmas.Result.{err_from_is_err_and}
use Rattle.tib_field.specs.internal.Measured.{measured}
use Rattle.tib_msg_field.specs.Reading.{total}
use Rattle.tib_msg_field.proofs.StepTests.{data_cut_lem}
use Rattle.tib_msg_field.proofs.FieldNumbers.{hint_refused, hint_inside, hint_accepted}
use Rattle.tib_msg_field.proofs.from_data.Goals as goal

pub returns-then-s-l : goal.returns-then-s-l
unfolding measured
returns-then-s-l c = let a = c.args in ap (measured total) (data_cut_lem a.n a.c a.w a.l a.s.now c.if-s-l.true)

pub returns-in_err-h : goal.returns-in_err-h
returns-in_err-h c =
    let a = c.args in
    let p = err_from_is_err_and c.from_residual.result c.from_residual.ensures.1 in
    rw (p.1, p.2) (hint_refused a.n a.c a.w a.l a.s.now c.if-s-l.false _ c.in_err-h.ensures)

pub overflow_add-result-4 : goal.overflow_add-result-4
overflow_add-result-4 c = let a = c.args in omega (arith, hint_inside a.n a.c a.w a.l a.s.now c.if-s-l.false _ c.in_ok-h.ensures)

pub returns : goal.returns
returns c = let a = c.args in hint_accepted a.n a.c a.w a.l a.s.now c.if-s-l.false _ c.in_ok-h.ensures
