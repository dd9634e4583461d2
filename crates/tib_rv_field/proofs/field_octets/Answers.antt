-- `tib_rv_field::field_octets` meets its contract.
use native.Mathlib.Omega.{arith}
use mathlib.Core.Path.{refl, ap, ◌∙◌}
use Rattle.std.proofs.lemmas.Result.{err_from_is_err_and}
use Rattle.reading.proofs.Numbers.{some_refusal}
use Rattle.tib_field.proofs.Names.{name_step_none, name_step_refused, name_step_sized, sized_inside}
use Rattle.tib_field.proofs.NameSteps.{next_of_end, next_of_fault, next_of_sized}
use Rattle.tib_rv_field.specs.Reading.{Done, Fault, from_type, next_field}
use Rattle.tib_rv_field.specs.internal.Measured.{measured}
use Rattle.tib_rv_field.proofs.field_octets.Goals as goal

pub returns-then-s-eq0 : goal.returns-then-s-eq0
unfolding next_field measured
returns-then-s-eq0 c = let s = c.args.s.now in ap measured (next_of_end Done Fault from_type s (name_step_none s c.if-s-eq0.true))

pub returns-in_err-check_name : goal.returns-in_err-check_name
unfolding next_field measured
returns-in_err-check_name c =
    let s = c.args.s.now in
    let p = err_from_is_err_and c.from_residual.result c.from_residual.ensures.1 in
    rw (p.1, p.2)
    (ap measured (next_of_fault Done Fault from_type s _ (name_step_refused s _ c.in_err-check_name.ensures (some_refusal _))))

pub overflow_add-start : goal.overflow_add-start
overflow_add-start c =
    omega (arith, sized_inside c.args.s.now c.from-n.result 0 c.if-s-eq0.false c.in_ok-check_name.ensures refl c.from-n.ensures)

pub slice_bounds-from_type-count : goal.slice_bounds-from_type-count
slice_bounds-from_type-count c = sized_inside c.args.s.now c.from-n.result 0 c.if-s-eq0.false c.in_ok-check_name.ensures refl c.from-n.ensures

pub slice_bounds-from_type-start : goal.slice_bounds-from_type-start
slice_bounds-from_type-start c = sized_inside c.args.s.now c.from-n.result 0 c.if-s-eq0.false c.in_ok-check_name.ensures refl c.from-n.ensures

pub from_type-requires : goal.from_type-requires
from_type-requires c =
    let x = (c.type_inv.s 0).fits in
    let e = c.from-n.ensures in
    omega arith

pub returns : goal.returns
unfolding next_field
returns c =
    let s = c.args.s.now in
    c.from_type.ensures
    ∙ ap measured (next_of_sized Done Fault from_type s _ (name_step_sized s c.from-n.result 0 c.if-s-eq0.false c.in_ok-check_name.ensures refl c.from-n.ensures))
