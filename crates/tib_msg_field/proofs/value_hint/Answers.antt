-- `tib_msg_field::value_hint` meets its contract.
use borrow.Author.Tests.{lt-ltb, le-ltb, le-leb, lt-leb}
use mathlib.Core.Path.{sym, ◌∙◌}
use Rattle.tib_msg_field.specs.Reading.{value_hint}
use native.Mathlib.Omega.{arith}
use Rattle.tib_msg_field.proofs.Hints.{width_small}
use Rattle.tib_msg_field.proofs.value_hint.Goals as goal

pub returns-then-t-lt5 : goal.returns-then-t-lt5
unfolding value_hint
returns-then-t-lt5 c = rw (lt-leb 5 _ c.if-t-lt5.true)

pub returns-then-t-gt6 : goal.returns-then-t-gt6
unfolding value_hint
returns-then-t-gt6 c = rw (le-leb 5 _ c.if-t-lt5.false, lt-leb _ 6 c.if-t-gt6.true)

pub returns-then-not-is_width : goal.returns-then-not-is_width
unfolding value_hint
returns-then-not-is_width c =
    let w = sym c.is_width.ensures ∙ c.if-not-is_width.true in
    rw (le-leb 5 _ c.if-t-lt5.false, le-leb _ 6 c.if-t-gt6.false, w)

pub returns-then-remaining-n : goal.returns-then-remaining-n
unfolding value_hint
returns-then-remaining-n c =
    let w = sym c.is_width.ensures ∙ c.if-not-is_width.false in
    rw (le-leb 5 _ c.if-t-lt5.false, le-leb _ 6 c.if-t-gt6.false, w, lt-ltb _ _ c.if-remaining-n.true)

pub overflow_add-result : goal.overflow_add-result
overflow_add-result c =
    let w = width_small c.args.n (sym c.is_width.ensures ∙ c.if-not-is_width.false) in
    omega arith

pub returns : goal.returns
unfolding value_hint
returns c =
    let w = sym c.is_width.ensures ∙ c.if-not-is_width.false in
    rw (le-leb 5 _ c.if-t-lt5.false, le-leb _ 6 c.if-t-gt6.false, w, le-ltb _ _ c.if-remaining-n.false)
