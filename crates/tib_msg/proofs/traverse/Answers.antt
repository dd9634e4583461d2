-- `tib_msg::traverse` meets its contract: at each turn the fields passed stand before those of the rest.
use native.Mathlib.Omega.{arith}
use Rattle.tib_msg.proofs.TraverseLoop.{start, at_end, refused_here, forward, over_field}
use Rattle.tib_msg.proofs.traverse.Goals as goal

pub loop-i-init : goal.loop-i-init
loop-i-init c = start c.args.s.now c.requires.0

pub returns-in-Err : goal.returns-in-Err
returns-in-Err c =
    let l = c.loop-i in
    rw c.at.ensures (refused_here c.args.s.now l.i l.fields l.invariant c.loop-i-test.true _ c.in-Err.ensures)

pub overflow_add-i : goal.overflow_add-i
overflow_add-i c =
    let l = c.loop-i in
    let r = forward c.args.s.now l.i l.fields l.invariant c.loop-i-test.true _ c.in-Ok.ensures in
    omega arith

pub overflow_add-fields : goal.overflow_add-fields
overflow_add-fields c = omega arith

pub loop-i-smaller : goal.loop-i-smaller
loop-i-smaller c =
    let l = c.loop-i in
    let r = forward c.args.s.now l.i l.fields l.invariant c.loop-i-test.true _ c.in-Ok.ensures in
    omega arith

pub loop-i-preserved : goal.loop-i-preserved
loop-i-preserved c =
    let l = c.loop-i in
    over_field c.args.s.now l.i l.fields l.invariant c.loop-i-test.true _ c.in-Ok.ensures

pub returns : goal.returns
returns c =
    let l = c.loop-i in
    at_end c.args.s.now l.i l.fields l.invariant c.loop-i-test.false
