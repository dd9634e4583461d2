-- `shortest_number` looks at the first octet, and asks the reading of the number only where that does not decide.
use native.Mathlib.Omega.{arith}
use mathlib.Core.Path.{sym, ◌∙◌}
use borrow.Author.Tests.{eqb-false, not-true}
use Rattle.octets.proofs.Number.{octets_of_slice}
use Rattle.message_field.proofs.Nexts.{none_number, first_number, number_uint, number_int}
use Rattle.message_field.proofs.shortest_number.Goals as goal

pub returns-then-s-eq0 : goal.returns-then-s-eq0
returns-then-s-eq0 c = let a = c.args in sym (none_number a.code a.s.now c.if-s-eq0.true)

pub returns-then-s-ne0 : goal.returns-then-s-ne0
returns-then-s-ne0 c =
    let d = c in
    let a = d.args in
    let o = octets_of_slice a.s.now (λ i. (d.type_inv.s i).fits) in
    let z = d.if-s-eq0.false in
    sym (first_number a.code a.s.now o c.if-s-le8.true (omega (arith, z)) (eqb-false _ 0 (not-true _ c.if-s-ne0.true-raw)))

pub returns-then-code-eq1 : goal.returns-then-code-eq1
returns-then-code-eq1 c =
    let a = c.args in
    c.uint.ensures.shortest_value ∙ sym (number_uint a.code a.s.now c.if-code-eq1.true)

pub returns : goal.returns
returns c =
    let a = c.args in
    c.int.ensures.shortest_value ∙ sym (number_int a.code a.s.now c.if-code-eq1.false)
