-- `tib_qform::locate` meets its contract.
use mathlib.Core.Path.{refl, sym, ap, ap₂, ◌∙◌}
use lib.ListN.{length}
use Rattle.std.specs.Prelude.{Err, ok_or}
use Rattle.std.proofs.lemmas.Result.{err_from_is_err_and}
use Rattle.reading.specs.Reading.{accepted, refused}
use Rattle.reading.specs.declared.Fault.{Fault}
use Rattle.reading.specs.internal.Verdicts.{verdict}
use Rattle.tib_field.proofs.ReadingLaws.{verdict_accepted, field_refused, field_of_kth}
use Rattle.tib_field.specs.Steps.{flat_depth}
use Rattle.tib_qform_field.specs.Reading.{reading}
use Rattle.tib_qform.specs.CheckAndField.{places}
use Rattle.tib_qform.specs.internal.Found.{place_and_fid, in_reading}
use Rattle.tib_qform.proofs.Kths.{wanted}
use Rattle.tib_qform.proofs.Shows.{kth_found}
use Rattle.tib_qform.proofs.locate.Goals as goal

pub returns-in_err-read : goal.returns-in_err-read
returns-in_err-read c =
    let a = c.args in
    let p = err_from_is_err_and c.from_residual.result c.from_residual.ensures.1 in
    λ es noted.
    ap in_reading (p.1 ∙ ap (λ (f : Fault). Err f) p.2)
    ∙ field_refused length flat_depth refused (λ at f. accepted (place_and_fid at f)) places a.k (reading es a.message.now) _ _
    (sym (c.read.ensures es noted) ∙ ap verdict c.in_err-read.was)

pub returns : goal.returns
returns c =
    let a = c.args in
    λ es noted.
    let m = reading es a.message.now in
    let accepts = verdict_accepted length flat_depth m _ _ (sym (c.read.ensures es noted) ∙ ap verdict c.in_ok-read.was) in
    let w = wanted es a.message.now a.k in
    kth_found w c.ok_or.result (c.ok_or.ensures.value ∙ ap₂ ok_or (c.find.ensures es noted accepts) c.at.ensures)
    ∙ field_of_kth refused (λ at f. accepted (place_and_fid at f)) places a.k m accepts w refl
