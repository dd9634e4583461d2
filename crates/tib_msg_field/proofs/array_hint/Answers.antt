-- `tib_msg_field::array_hint` meets its contract.
use borrow.Author.Tests.{le-leb, lt-leb, eq-eqb, ne_eqb}
use mathlib.Core.Path.{sym, ◌∙◌}
use Rattle.tib_msg_field.specs.Reading.{array_hint}
use Rattle.tib_msg_field.proofs.Hints.{width_small}
use Rattle.tib_msg_field.proofs.array_hint.Goals as goal

pub returns-then-t-lt4 : goal.returns-then-t-lt4
unfolding array_hint
returns-then-t-lt4 c = rw (lt-leb 4 _ c.if-t-lt4.true)

pub returns-then-t-gt7 : goal.returns-then-t-gt7
unfolding array_hint
returns-then-t-gt7 c = rw (le-leb 4 _ c.if-t-lt4.false, lt-leb _ 7 c.if-t-gt7.true)

pub returns-then-not-is_width : goal.returns-then-not-is_width
unfolding array_hint
returns-then-not-is_width c =
    let w = sym c.is_width.ensures ∙ c.if-not-is_width.true in
    rw (le-leb 4 _ c.if-t-lt4.false, le-leb _ 7 c.if-t-gt7.false, w)

pub nonzero_rem-size : goal.nonzero_rem-size
nonzero_rem-size c = (width_small c.args.n (sym c.is_width.ensures ∙ c.if-not-is_width.false)).0

pub returns-then-size-n-ne0 : goal.returns-then-size-n-ne0
unfolding array_hint
returns-then-size-n-ne0 c =
    let w = sym c.is_width.ensures ∙ c.if-not-is_width.false in
    rw (le-leb 4 _ c.if-t-lt4.false, le-leb _ 7 c.if-t-gt7.false, w, ne_eqb _ 0 c.if-size-n-ne0.true)

pub returns : goal.returns
unfolding array_hint
returns c =
    let w = sym c.is_width.ensures ∙ c.if-not-is_width.false in
    rw (le-leb 4 _ c.if-t-lt4.false, le-leb _ 7 c.if-t-gt7.false, w, eq-eqb _ 0 c.if-size-n-ne0.false)
