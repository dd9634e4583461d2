-- `step` goes by what the look at the field found.
use mathlib.Core.Path.{subst}
use Rattle.message_field.proofs.Nexts.{cell_small}
use Rattle.message_calls.specs.internal.SmallFields.{Known}
use Rattle.message_calls.specs.declared.traversal.Look.{Look}
use Rattle.message_calls.proofs.SmallFields.{again, by_code, over_passed}
use Rattle.message_calls.proofs.traversal.step.Goals as goal

pub returns-in-Passed : goal.returns-in-Passed
returns-in-Passed c =
    let a = c.args in
    over_passed a.cells.now a.nested a.number a.seen a.s.now a.i c.in-Passed.end c.in-Passed.mask
    (subst (λ (x : Look). Known a.cells.now a.number a.seen a.s.now a.i x) c.in-Passed.is c.requires)

pub next-requires : goal.next-requires
next-requires c =
    let a = c.args in
    let k = subst (λ (x : Look). Known a.cells.now a.number a.seen a.s.now a.i x) c.in-Left.is c.requires in
    record { small = cell_small a.cells.now a.number a.s.now a.i k.0.cell k.0.found; no_text = (k.2, k.3) }

pub returns-in-Left : goal.returns-in-Left
returns-in-Left c =
    let a = c.args in
    let k = subst (λ (x : Look). Known a.cells.now a.number a.seen a.s.now a.i x) c.in-Left.is c.requires in
    by_code a.cells.now a.nested a.number a.seen a.s.now a.i k.0.cell k.0.found c.in-Left.mask k.0.noted c.in-Left.code k.1 c.next.ensures

pub returns-in-Repeated : goal.returns-in-Repeated
returns-in-Repeated c =
    let a = c.args in
    let k = subst (λ (x : Look). Known a.cells.now a.number a.seen a.s.now a.i x) c.in-Repeated.is c.requires in
    again a.cells.now a.nested a.number a.seen a.s.now a.i c.in-Repeated.cell k.0 k.1 _ c.repeat_fault.ensures
