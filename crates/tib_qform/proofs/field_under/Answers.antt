-- `tib_qform::field_under` meets its contract: its cells were cleared, so noting the dictionary decides whether it is good.
use native.Mathlib.Omega.{arith}
use mathlib.Core.Path.{◌≡◌, refl, sym, ap, ◌∙◌, subst}
use Rattle.std.specs.Prelude.{Err}
use Rattle.std.proofs.Common.{rules}
use Rattle.std.proofs.lemmas.Result.{err_from_is_err_and}
use Rattle.reading.specs.Refusals.{number}
use Rattle.reading.specs.declared.Fault.{Fault}
use Rattle.reading.specs.declared.Refusal.TheVariants.{Table}
use Rattle.tib_dictionary.proofs.Searches.{first_known}
use Rattle.tib_qform.specs.CheckAndField.{refused_field, field}
use Rattle.tib_qform.specs.InNumbers.{field_answer}
use Rattle.tib_qform.specs.internal.Found.{Noted, in_reading}
use Rattle.tib_qform.proofs.Calls.{long, faulty, good}
use Rattle.tib_qform.proofs.Results.{was_err, was_noted}
use Rattle.tib_qform.proofs.Shows.{refused_shown, found_shown, stands}
use Rattle.tib_qform.proofs.field_under.Goals as goal

pub returns-then-message-gt-MESSAGE_LIMIT : goal.returns-then-message-gt-MESSAGE_LIMIT
returns-then-message-gt-MESSAGE_LIMIT g c =
    let a = c.args in
    ap (λ (f : Fault). refused_field (number f.refusal) f.place) c.at.ensures
    ∙ sym (long refused_field (λ es. field es a.message.now a.k) a.message.now (g.D.Source.read a.d.now) c.if-message-gt-MESSAGE_LIMIT.true)

pub returns-in_err-map_err : goal.returns-in_err-map_err
returns-in_err-map_err g c =
    let a = c.args in
    let p = err_from_is_err_and c.from_residual.result c.from_residual.ensures.1 in
    let w = was_err _ c.note.result c.map_err.ensures.cases c.in_err-map_err.was in
    let v = w.2 in
    let e : c.in_err-map_err.field-0.0 ≡ record { refusal = Table; place = w.0 } = search rules in
    ap field_answer (p.1 ∙ ap (λ (f : Fault). Err f) (p.2 ∙ e))
    ∙ sym (faulty refused_field (λ es. field es a.message.now a.k) a.message.now (g.D.Source.read a.d.now) c.if-message-gt-MESSAGE_LIMIT.false 2 w.0
    (subst (λ r. Noted (g.D.Source.read a.d.now) r c.note.new.cells) w.1 c.note.ensures))

pub returns-in_err-found : goal.returns-in_err-found
returns-in_err-found g c =
    let a = c.args in
    let n = was_noted _ (g.D.Source.read a.d.now) c.note.result c.note.new.cells c.note.ensures c.map_err.ensures.cases c.in_ok-map_err.was in
    let p = err_from_is_err_and c.from_residual-in_err-found.result c.from_residual-in_err-found.ensures.1 in
    ap field_answer (p.1 ∙ ap (λ (f : Fault). Err f) p.2)
    ∙ refused_shown n.0 a.message.now a.k _ _ (ap in_reading (sym c.in_err-found.was) ∙ c.locate.ensures n.0 n.2)
    ∙ sym (good refused_field (λ es. field es a.message.now a.k) a.message.now (g.D.Source.read a.d.now) c.if-message-gt-MESSAGE_LIMIT.false n.0 n.1)

pub unwrap-entry-requires : goal.unwrap-entry-requires
unwrap-entry-requires g c =
    let a = c.args in
    let n = was_noted _ (g.D.Source.read a.d.now) c.note.result c.note.new.cells c.note.ensures c.map_err.ensures.cases c.in_ok-map_err.was in
    let f = c.in_ok-found.found in
    let t = stands n.0 a.message.now a.k f (ap in_reading (sym c.in_ok-found.was) ∙ c.locate.ensures n.0 n.2) in
    rw (c.entry.ensures n.0 n.1 ∙ (first_known f.fid n.0 t.entry t.known).0) refl

pub shown-requires : goal.shown-requires
shown-requires g c =
    let a = c.args in
    let n = was_noted _ (g.D.Source.read a.d.now) c.note.result c.note.new.cells c.note.ensures c.map_err.ensures.cases c.in_ok-map_err.was in
    let t = stands n.0 a.message.now a.k c.in_ok-found.found (ap in_reading (sym c.in_ok-found.was) ∙ c.locate.ensures n.0 n.2) in
    let i = t.inside in
    let m = c.if-message-gt-MESSAGE_LIMIT.false in
    omega arith

pub returns : goal.returns
returns g c =
    let a = c.args in
    let n = was_noted _ (g.D.Source.read a.d.now) c.note.result c.note.new.cells c.note.ensures c.map_err.ensures.cases c.in_ok-map_err.was in
    let f = c.in_ok-found.found in
    let e = ap in_reading (sym c.in_ok-found.was) ∙ c.locate.ensures n.0 n.2 in
    let t = stands n.0 a.message.now a.k f e in
    let known = first_known f.fid n.0 t.entry t.known in
    let is = sym c.unwrap-entry.ensures ∙ c.entry.ensures n.0 n.1 ∙ known.0 in
    let same : c.unwrap-entry.result ≡ t.entry = cc in
    c.shown.ensures
    ∙ found_shown n.0 a.message.now a.k f e c.unwrap-entry.result (same ∙ known.1)
    ∙ sym (good refused_field (λ es. field es a.message.now a.k) a.message.now (g.D.Source.read a.d.now) c.if-message-gt-MESSAGE_LIMIT.false n.0 n.1)
