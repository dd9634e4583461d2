-- `tib_rv_field::from_count` meets its contract.
use borrow.Author.Tests.{lt-ltb, le-ltb}
use mathlib.Core.Path.{sym, ◌∙◌}
use native.Mathlib.Omega.{arith}
use Rattle.tib_rv_field.specs.Reading.{from_count}
use Rattle.tib_rv_field.specs.internal.Measured.{measured}
use Rattle.tib_rv_field.proofs.Counts.{good_count}
use Rattle.tib_rv_field.proofs.from_count.Goals as goal

pub returns-then-not-count_allowed : goal.returns-then-not-count_allowed
unfolding from_count measured
returns-then-not-count_allowed c = rw (sym c.count_allowed.ensures ∙ c.if-not-count_allowed.true)

pub overflow_sub-k : goal.overflow_sub-k
overflow_sub-k c =
    let a = c.args in
    let g = (good_count a.c a.m a.k (sym c.count_allowed.ensures ∙ c.if-not-count_allowed.false)).enough in
    let e = c.own.ensures in
    omega arith

pub returns-then-remaining-k : goal.returns-then-remaining-k
unfolding from_count measured
returns-then-remaining-k c = rw ((sym c.count_allowed.ensures ∙ c.if-not-count_allowed.false), ← c.own.ensures, lt-ltb _ _ c.if-remaining-k.true)

pub found-requires : goal.found-requires
found-requires c =
    let b = c in
    let a = b.args in
    record { m_bound = (good_count a.c a.m a.k (sym c.count_allowed.ensures ∙ c.if-not-count_allowed.false)).enough; n_bound = b.requires.n_bound; k_bound = b.requires.k_bound }

pub returns : goal.returns
unfolding from_count
returns c = c.found.ensures ∙ rw ((sym c.count_allowed.ensures ∙ c.if-not-count_allowed.false), ← c.own.ensures, le-ltb _ _ c.if-remaining-k.false)
