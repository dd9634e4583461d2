-- `tib_msg::hint_octets` meets its contract.
use borrow.Author.Tests.{eq-eqb, ne_eqb}
use native.Mathlib.Omega.{arith}
use mathlib.Core.Path.{sym, ◌∙◌}
use Rattle.tib_msg.specs.internal.Found.{hint_octets}
use Rattle.tib_msg.proofs.hint_octets.Goals as goal

pub returns-then-not-hinted : goal.returns-then-not-hinted
unfolding hint_octets
returns-then-not-hinted c = rw (sym c.hinted.ensures ∙ c.if-not-hinted.true)

pub returns-then-k-eq8 : goal.returns-then-k-eq8
unfolding hint_octets
returns-then-k-eq8 c =
    let k = c in
    rw (sym k.hinted.ensures ∙ k.if-not-hinted.false, ← k.kind-k.ensures, eq-eqb _ 8 c.if-k-eq8.true)

pub returns-then-k-eq9 : goal.returns-then-k-eq9
unfolding hint_octets
returns-then-k-eq9 c =
    let k = c in
    rw (sym k.hinted.ensures ∙ k.if-not-hinted.false, ← k.kind-k.ensures, ne_eqb _ 8 c.if-k-eq8.false, eq-eqb _ 9 c.if-k-eq9.true)

pub bounds-s-1 : goal.bounds-s-1
bounds-s-1 c =
    let k = c in
    let h = k in
    let t = h.requires (sym h.hinted.ensures ∙ k.if-not-hinted.false) in
    omega arith

pub overflow_add-result : goal.overflow_add-result
overflow_add-result c =
    let x = (c.type_inv.s 1).fits in
    let e = c.from.ensures in
    omega arith

pub returns : goal.returns
unfolding hint_octets
returns c =
    let k = c in
    rw (c.from.ensures, sym k.hinted.ensures ∙ k.if-not-hinted.false, ← k.kind-k.ensures, ne_eqb _ 8 c.if-k-eq8.false, ne_eqb _ 9 c.if-k-eq9.false)
