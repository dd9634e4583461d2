-- `tib_msg_field::from_long` meets its contract.
use mathlib.Core.Path.{sym, ap, ◌∙◌}
use Rattle.tib_field.specs.internal.Measured.{measured}
use Rattle.tib_msg_field.specs.Reading.{total}
use Rattle.tib_msg_field.proofs.StepTests.{four_read, size_cut, size_bad, size_good}
use Rattle.tib_msg_field.proofs.from_long.Goals as goal

pub returns-then-s-lt4 : goal.returns-then-s-lt4
unfolding measured
returns-then-s-lt4 c = let a = c.args in ap (measured total) (size_cut a.n a.c 4 a.s.now c.if-s-lt4.true)

pub returns-then-size_allowed : goal.returns-then-size_allowed
returns-then-size_allowed c =
    let t = c in
    let k = t in
    let u = k in
    let e = u in
    let a = e.args in
    c.from_data.ensures
    ∙ ap (measured total) (size_good a.n a.c 4 a.s.now e.if-s-lt4.false u.uint-l.result (four_read a.s.now u.uint-l.result e.if-s-lt4.false u.uint-l.ensures) k.kind.result k.kind.ensures (sym t.size_allowed.ensures ∙ t.if-size_allowed.true))

pub returns-else-size_allowed : goal.returns-else-size_allowed
unfolding measured
returns-else-size_allowed c =
    let k = c in
    let u = k in
    let e = u in
    let a = e.args in
    ap (measured total) (size_bad a.n a.c 4 a.s.now e.if-s-lt4.false u.uint-l.result (four_read a.s.now u.uint-l.result e.if-s-lt4.false u.uint-l.ensures) k.kind.result k.kind.ensures (sym c.size_allowed.ensures ∙ c.if-size_allowed.false))
