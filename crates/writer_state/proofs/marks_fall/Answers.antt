-- `marks_fall` meets its contract: in each step of the loop the remaining marks decide.
use mathlib.Core.Path.{refl, sym, ◌∙◌}
use Rattle.std.proofs.lemmas.List.{drop_all}
use Rattle.writer_state.specs.Sound.{falling}
use Rattle.writer_state.proofs.Levels.{fall_low, fall_high, fall_moves}
use Rattle.writer_state.proofs.marks_fall.Goals as goal
use Rattle.writer_state.proofs.marks_fall.Goals.{then-m-low-via-then-m-low, then-m-low-via-else-m-low+then-top-m}

pub returns-then-m-low : goal.returns-then-m-low
returns-then-m-low c =
    let a = c.args in
    let l = c.loop-m in
    elim c.then-m-low.branch [
      | then-m-low-via-then-m-low w ↦ sym (l.invariant ∙ fall_low a.marks.now l.m-index a.low l.top c.loop-m-test.true w.if-m-low.true)
      | then-m-low-via-else-m-low+then-top-m w ↦
          sym (l.invariant ∙ fall_high a.marks.now l.m-index a.low l.top c.loop-m-test.true w.if-m-low.false w.if-top-m.true)
    ]

pub loop-m-preserved : goal.loop-m-preserved
loop-m-preserved c =
    let a = c.args in
    let l = c.loop-m in
    l.invariant ∙ fall_moves a.marks.now l.m-index a.low l.top c.loop-m-test.true c.if-m-low.false c.if-top-m.false

pub returns : goal.returns
unfolding falling
returns c = let l = c.loop-m in sym (l.invariant ∙ rw (drop_all l.m-index c.args.marks.now c.loop-m-test.false) refl)
