-- `needs_first_octet` says yes only if the first octet has a bit of the magnitude.
use native.Mathlib.Omega.{arith}
use mathlib.Core.Bool.{false≢true}
use borrow.Author.Tests.{eqb-false, not-true}
use Rattle.octets.proofs.Number.{octets_of_slice}
use Rattle.message_field.proofs.Nexts.{by_first}
use Rattle.message_field.proofs.needs_first_octet.Goals as goal

pub returns-then-e-a : goal.returns-then-e-a
returns-then-e-a c = λ code k e. absurd (false≢true e)

pub returns : goal.returns
returns c =
    let b = c in
    let a = b.args in
    let s = a.s.now in
    let o = octets_of_slice s (λ k. (c.type_inv.s k).fits) in
    let l = c.if-e-a.false in
    λ code k e. by_first code s a.a a.e (b.requires.0, b.requires.1) k o (omega (arith, l)) b.requires.2 (eqb-false _ 0 (not-true _ e))
