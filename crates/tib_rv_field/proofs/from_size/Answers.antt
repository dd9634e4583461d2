-- `tib_rv_field::from_size` meets its contract.
use mathlib.Core.Path.{ap, ◌∙◌}
use native.Mathlib.Omega.{arith}
use Rattle.tib_rv_field.specs.internal.Measured.{measured}
use Rattle.tib_rv_field.proofs.StepTests.{size_none, marker_bad, size_short, size_long, follows_79, follows_7a}
use Rattle.tib_rv_field.proofs.from_size.Goals as goal

pub returns-then-s-eq0 : goal.returns-then-s-eq0
unfolding measured
returns-then-s-eq0 c = let a = c.args in ap measured (size_none a.n a.c a.s.now c.if-s-eq0.true)

pub returns-then-m-lt121 : goal.returns-then-m-lt121
returns-then-m-lt121 c =
    let w = c in
    let a = w.args in
    c.from_count.ensures ∙ ap measured (size_short a.n a.c a.s.now w.from-m.result w.if-s-eq0.false w.from-m.ensures c.if-m-lt121.true)

pub returns-then-m-eq121 : goal.returns-then-m-eq121
returns-then-m-eq121 c =
    let w = c in
    let a = w.args in
    let t = c in
    c.from_long.ensures ∙ ap measured (size_long a.n a.c a.s.now w.from-m.result w.if-s-eq0.false w.from-m.ensures 2 t.if-m-lt121.false (omega (arith, t.if-m-eq121.true)) (follows_79 _ t.if-m-eq121.true))

pub returns-then-m-eq122 : goal.returns-then-m-eq122
returns-then-m-eq122 c =
    let w = c in
    let a = w.args in
    let t = c in
    c.from_long-then-m-eq122.ensures ∙ ap measured (size_long a.n a.c a.s.now w.from-m.result w.if-s-eq0.false w.from-m.ensures 4 t.if-m-lt121.false (omega (arith, t.if-m-eq122.true)) (follows_7a _ t.if-m-eq122.true))

pub returns : goal.returns
unfolding measured
returns c =
    let w = c in
    let a = w.args in
    ap measured (marker_bad a.n a.c a.s.now w.from-m.result w.if-s-eq0.false w.from-m.ensures (omega (arith, c.if-m-eq122.false, c.if-m-eq121.false, c.if-m-lt121.false)))
