-- `follow` returns what its definition says: in each iteration the chain from the current cell decides.
use native.Mathlib.Omega.{arith}
use mathlib.Core.Path.{sym, ap, ◌∙◌}
use Rattle.table_index.specs.internal.Cells.{chase}
use Rattle.table_index.proofs.Chains.{chase_zero, chase_here, chase_next, next_less}
use Rattle.table_index.proofs.follow.Goals as goal

pub returns-then-c-eq0 : goal.returns-then-c-eq0
returns-then-c-eq0 c =
    let a = c.args in
    let l = c.loop-c in
    sym (l.invariant ∙ rw c.if-c-eq0.true (chase_zero a.cells.now a.key 64))

pub loop-c-smaller : goal.loop-c-smaller
loop-c-smaller c =
    let a = c.args in
    next_less a.cells.now c.loop-c.c c.next-c.result c.next-c.ensures c.if-c-eq0.false

pub loop-c-preserved : goal.loop-c-preserved
loop-c-preserved c =
    let a = c.args in
    let l = c.loop-c in
    l.invariant ∙ chase_next a.cells.now a.key l.c c.loop-c-test.true ∙ ap (chase 64 a.cells.now a.key) (sym c.next-c.ensures)

pub returns : goal.returns
returns c =
    let a = c.args in
    let l = c.loop-c in
    sym (l.invariant ∙ chase_here a.cells.now a.key 63 l.c (omega arith))
