-- `tib_qform::check_under` meets its contract: its cells were cleared, so noting the dictionary decides whether it is good.
use mathlib.Core.Path.{sym, ap, ◌∙◌, subst}
use lib.ListN.{length}
use Rattle.std.specs.Prelude.{Err}
use Rattle.std.proofs.Common.{rules, ◌≡◌}
use Rattle.std.proofs.lemmas.Result.{err_from_is_err_and}
use Rattle.reading.specs.Checks.{refusal, checked}
use Rattle.reading.specs.Refusals.{number}
use Rattle.reading.specs.declared.Fault.{Fault}
use Rattle.reading.specs.declared.Refusal.TheVariants.{Table}
use Rattle.reading.proofs.Checks.{checked_of_verdict}
use Rattle.tib_field.specs.Steps.{flat_depth}
use Rattle.tib_qform_field.specs.Reading.{reading}
use Rattle.tib_qform.specs.CheckAndField.{check}
use Rattle.tib_qform.specs.internal.Found.{Noted}
use Rattle.tib_qform.proofs.Calls.{long, faulty, good}
use Rattle.tib_qform.proofs.Results.{was_err, was_noted}
use Rattle.tib_qform.proofs.check_under.Goals as goal

pub returns-then-message-gt-MESSAGE_LIMIT : goal.returns-then-message-gt-MESSAGE_LIMIT
returns-then-message-gt-MESSAGE_LIMIT g c =
    let a = c.args in
    ap (λ (f : Fault). refusal (number f.refusal) f.place) c.at.ensures
    ∙ sym (long refusal (λ es. check es a.message.now) a.message.now (g.D.Source.read a.d.now) c.if-message-gt-MESSAGE_LIMIT.true)

pub returns-in_err-map_err : goal.returns-in_err-map_err
returns-in_err-map_err g c =
    let a = c.args in
    let p = err_from_is_err_and c.from_residual.result c.from_residual.ensures.1 in
    let w = was_err _ c.note.result c.map_err.ensures.cases c.in_err-map_err.was in
    let v = w.2 in
    let e : c.in_err-map_err.field-0.0 ≡ record { refusal = Table; place = w.0 } = search rules in
    ap checked (p.1 ∙ ap (λ (f : Fault). Err f) (p.2 ∙ e))
    ∙ sym (faulty refusal (λ es. check es a.message.now) a.message.now (g.D.Source.read a.d.now) c.if-message-gt-MESSAGE_LIMIT.false 2 w.0
    (subst (λ r. Noted (g.D.Source.read a.d.now) r c.note.new.cells) w.1 c.note.ensures))

pub returns : goal.returns
unfolding check
returns g c =
    let a = c.args in
    let n = was_noted _ (g.D.Source.read a.d.now) c.note.result c.note.new.cells c.note.ensures c.map_err.ensures.cases c.in_ok-map_err.was in
    checked_of_verdict length flat_depth (reading n.0 a.message.now) c.read.result (c.read.ensures n.0 n.2)
    ∙ sym (good refusal (λ es. check es a.message.now) a.message.now (g.D.Source.read a.d.now) c.if-message-gt-MESSAGE_LIMIT.false n.0 n.1)
