-- `tib_qform::read` meets its contract.
use Prim.Native.Nat.{suc}
use mathlib.Core.Path.{◌≡◌, sym, ap, ◌∙◌, subst}
use lib.ListN.{length}
use Rattle.std.specs.Prelude.{Err}
use Rattle.std.proofs.Common.{rules}
use Rattle.std.proofs.lemmas.Result.{err_from_is_err_and}
use Rattle.reading.specs.Refusals.{number, fault_number}
use Rattle.reading.specs.declared.Fault.{Fault}
use Rattle.reading.specs.internal.Verdicts.{verdict, verdict_of}
use Rattle.reading.proofs.Numbers.{some_refusal}
use Rattle.tib_field.specs.Header.{header_fault}
use Rattle.tib_field.proofs.Headers.{header_inside, read_fault, read_fields}
use Rattle.tib_qform_field.specs.Layout.{magic}
use Rattle.tib_qform_field.specs.Reading.{fields_from, reading}
use Rattle.tib_field.specs.Steps.{flat_depth}
use Rattle.tib_qform.proofs.Results.{was_err, was_ok}
use Rattle.tib_qform.proofs.read.Goals as goal

pub returns-in_err-map_err : goal.returns-in_err-map_err
unfolding reading verdict_of
returns-in_err-map_err c =
    let s = c.args.message.now in
    let p = err_from_is_err_and c.from_residual.result c.from_residual.ensures.1 in
    let w = was_err _ c.check_header.result c.map_err.ensures.cases c.in_err-map_err.was in
    let v = w.2 in
    let e : c.in_err-map_err.field-0.0 ≡ record { refusal = w.0; place = 0 } = search rules in
    let k = subst (λ r. fault_number r ≡ header_fault magic s) w.1 c.check_header.ensures in
    λ es noted.
    ap verdict (p.1 ∙ ap (λ (f : Fault). Err f) (p.2 ∙ e))
    ∙ ap (verdict_of length flat_depth) (sym (read_fault magic s (fields_from es (suc (length s))) c.requires (number w.0) k (some_refusal w.0)))

pub traverse-requires : goal.traverse-requires
traverse-requires c =
    let w = was_ok _ c.check_header.result c.map_err.ensures.cases c.in_ok-map_err.was in
    header_inside magic c.args.message.now (sym c.check_header.ensures ∙ ap fault_number w)

pub returns : goal.returns
unfolding reading
returns c =
    let s = c.args.message.now in
    let w = was_ok _ c.check_header.result c.map_err.ensures.cases c.in_ok-map_err.was in
    λ es noted.
    c.traverse.ensures es noted
    ∙ ap (verdict_of length flat_depth) (sym (read_fields magic s (fields_from es (suc (length s))) c.requires _ c.check_header.ensures (ap fault_number w)))
