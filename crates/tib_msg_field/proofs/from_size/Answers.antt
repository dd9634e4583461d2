-- `tib_msg_field::from_size` meets its contract.
use Prim.Native.Nat.{ℕ}
use native.Mathlib.Omega.{arith}
use mathlib.Core.Path.{sym, ap, ◌∙◌}
use Rattle.tib_field.specs.internal.Measured.{measured}
use Rattle.tib_msg_field.specs.Reading.{from_size, total}
use Rattle.tib_msg_field.proofs.StepTests.{size_one, one_read, size_cut, size_bad, size_good}
use Rattle.tib_msg_field.proofs.from_size.Goals as goal

pub returns-then-size_width-eq4 : goal.returns-then-size_width-eq4
returns-then-size_width-eq4 c =
    let w = c in
    let a = w.args in
    c.from_long.ensures ∙ ap (λ (x : ℕ). measured total (from_size a.n a.c x a.s.now)) (sym c.if-size_width-eq4.true ∙ w.size_width.ensures)

pub returns-then-s-eq0 : goal.returns-then-s-eq0
unfolding measured
returns-then-s-eq0 c =
    let w = c in
    let a = w.args in
    ap (measured total)
    (size_cut a.n a.c 1 a.s.now (omega (arith, c.if-s-eq0.true)) ∙ ap (λ (x : ℕ). from_size a.n a.c x a.s.now) (size_one a.c w.size_width.result w.size_width.ensures c.if-size_width-eq4.false))

pub returns-then-size_allowed : goal.returns-then-size_allowed
returns-then-size_allowed c =
    let t = c in
    let k = t in
    let l = k in
    let e = l in
    let w = e in
    let a = w.args in
    c.from_data.ensures
    ∙ ap (measured total)
    (size_good a.n a.c 1 a.s.now (omega (arith, e.if-s-eq0.false)) l.from-l.result (one_read a.s.now l.from-l.result e.if-s-eq0.false l.from-l.ensures) k.kind.result k.kind.ensures (sym t.size_allowed.ensures ∙ t.if-size_allowed.true)
    ∙ ap (λ (x : ℕ). from_size a.n a.c x a.s.now) (size_one a.c w.size_width.result w.size_width.ensures e.if-size_width-eq4.false))

pub returns-else-size_allowed : goal.returns-else-size_allowed
unfolding measured
returns-else-size_allowed c =
    let k = c in
    let l = k in
    let e = l in
    let w = e in
    let a = w.args in
    ap (measured total)
    (size_bad a.n a.c 1 a.s.now (omega (arith, e.if-s-eq0.false)) l.from-l.result (one_read a.s.now l.from-l.result e.if-s-eq0.false l.from-l.ensures) k.kind.result k.kind.ensures (sym c.size_allowed.ensures ∙ c.if-size_allowed.false)
    ∙ ap (λ (x : ℕ). from_size a.n a.c x a.s.now) (size_one a.c w.size_width.result w.size_width.ensures e.if-size_width-eq4.false))
