-- `tib_rv::field` meets its contract.
use native.Mathlib.Omega.{arith}
use mathlib.Core.Path.{sym, ◌∙◌}
use Rattle.std.proofs.lemmas.Result.{err_from_is_err_and}
use Rattle.tib_field.specs.Refused.{refused_field}
use Rattle.tib_field.proofs.ReadingLaws.{verdict_accepted, field_refused}
use Rattle.tib_rv_field.specs.Layout.{depth}
use Rattle.tib_rv_field.specs.Reading.{reading}
use Rattle.tib_rv.specs.CheckAndField.{count, shown, places, field}
use Rattle.tib_rv.proofs.Kths.{field_found, field_absent}
use Rattle.tib_rv.proofs.field.Goals as goal

pub find-requires : goal.find-requires
find-requires c = verdict_accepted count depth (reading c.args.message.now) _ _ (sym c.in_ok-read.ensures)

pub shown-requires : goal.shown-requires
shown-requires c =
    let a = c.args in
    let f = (field_found a.message.now a.k (verdict_accepted count depth (reading a.message.now) _ _ (sym c.in_ok-read.ensures)) _ _ (sym c.find.ensures ∙ c.in-Some.is)).inside in
    omega arith

pub returns-in_err-read : goal.returns-in_err-read
unfolding field
returns-in_err-read c =
    let a = c.args in
    let p = err_from_is_err_and c.from_residual.result c.from_residual.ensures.1 in
    rw (p.1, p.2) (field_refused count depth refused_field shown places a.k (reading a.message.now) _ _ (sym c.in_err-read.ensures))

pub returns-in-Some : goal.returns-in-Some
returns-in-Some c =
    let a = c.args in
    c.shown.ensures
    ∙ (field_found a.message.now a.k (verdict_accepted count depth (reading a.message.now) _ _ (sym c.in_ok-read.ensures)) _ _ (sym c.find.ensures ∙ c.in-Some.is)).shows

pub returns-in-None : goal.returns-in-None
returns-in-None c =
    let a = c.args in
    rw c.at.ensures
    (field_absent a.message.now a.k (verdict_accepted count depth (reading a.message.now) _ _ (sym c.in_ok-read.ensures)) (sym c.find.ensures ∙ c.in-None.is))
