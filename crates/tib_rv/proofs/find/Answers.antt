-- `tib_rv::find` meets its contract: at each turn the field that is looked for is among those that remain.
use native.Mathlib.Omega.{arith}
use Rattle.tib_rv.proofs.Kths.{start, field_here, ended, one_more}
use Rattle.tib_rv.proofs.find.Goals as goal

pub loop-i-init : goal.loop-i-init
loop-i-init c = start c.args.s.now c.args.k c.requires

pub sizes_at-z-requires : goal.sizes_at-z-requires
sizes_at-z-requires c =
    let a = c.args in
    let l = c.loop-i in
    field_here a.s.now a.k l.i l.remaining l.invariant c.loop-i-test.true

pub returns-then-remaining-eq0 : goal.returns-then-remaining-eq0
returns-then-remaining-eq0 c =
    let a = c.args in
    let l = c.loop-i in
    (one_more a.s.now a.k l.i l.remaining l.invariant _ c.sizes_at-z.ensures).this_one c.if-remaining-eq0.true

pub past-i-requires : goal.past-i-requires
past-i-requires c =
    let a = c.args in
    let l = c.loop-i in
    let r = (one_more a.s.now a.k l.i l.remaining l.invariant _ c.sizes_at-z.ensures).fits in
    omega arith

pub loop-i-smaller : goal.loop-i-smaller
loop-i-smaller c =
    let a = c.args in
    let l = c.loop-i in
    let r = one_more a.s.now a.k l.i l.remaining l.invariant _ c.sizes_at-z.ensures in
    let p = r.takes in
    let q = r.fits in
    let n = c.past-i.ensures in
    omega arith

pub loop-i-preserved : goal.loop-i-preserved
loop-i-preserved c =
    let a = c.args in
    let l = c.loop-i in
    (one_more a.s.now a.k l.i l.remaining l.invariant _ c.sizes_at-z.ensures).later_one _ c.if-remaining-eq0.false c.past-i.ensures

pub returns : goal.returns
returns c =
    let a = c.args in
    let l = c.loop-i in
    ended a.s.now a.k l.i l.remaining l.invariant c.loop-i-test.false
