-- `place_at` steps from record to record; none of them begins after the octets end.
use native.Mathlib.Omega.{arith}
use mathlib.Core.Path.{refl}
use Rattle.table.specs.Load.{place_at}
use Rattle.table_index.proofs.RecordLaws.{place_inside, place_next, place_within}
use Rattle.table_index.proofs.record.place_at.Goals as goal

pub loop-n-init : goal.loop-n-init
unfolding place_at
loop-n-init c = refl

pub size_at-at-requires : goal.size_at-at-requires
size_at-at-requires c =
    let a = c.args in
    let l = c.loop-n in
    omega (arith, place_inside a.s.now a.i l._n l.at (omega arith) (omega arith) l.invariant)

pub overflow_add-at : goal.overflow_add-at
overflow_add-at c =
    let a = c.args in
    let l = c.loop-n in
    omega (arith, place_within a.s.now a.i l._n l.at (omega arith) (omega arith) l.invariant c.size_at-at.ensures)

pub loop-n-preserved : goal.loop-n-preserved
loop-n-preserved c =
    let a = c.args in
    let l = c.loop-n in
    place_next a.s.now a.i l._n l.at (omega arith) (omega arith) l.invariant c.size_at-at.ensures
