-- `note` tests the bit of the tag, and sets it.
use Prim.Native.Nat.{ℕ, ◌%◌}
use native.Mathlib.Omega.{arith}
use mathlib.Core.Path.{◌≡◌, refl, sym, ap, ◌∙◌}
use mathlib.Core.Bool.{true, false}
use borrow.Author.Tests.{not-true, not-false}
use Rattle.table.specs.Mask.{has_bit, with_bit}
use Rattle.table_index.specs.internal.Cells.{single_in, order_in, noted_in, note_in}
use Rattle.message_field.specs.internal.Nexts.{noted_of}
use Rattle.std.specs.Prelude.{Some, None}
use Rattle.message_field.proofs.note.Goals as goal
use Rattle.message_field.proofs.note.Goals.{After-has_bit, Start}

-- An order is below 64.
low : (cell k : ℕ) → k ≡ order_in cell → k % 64 ≡ order_in cell
unfolding order_in
low cell k e = omega arith

module _ (mask cell : ℕ) where
  many : single_in cell ≡ false → Some mask ≡ noted_of mask cell
  unfolding noted_of noted_in note_in
  many e = rw e refl

  module _ (e : single_in cell ≡ true) (k : ℕ) (o : k ≡ order_in cell) where
    again : has_bit mask (k % 64) ≡ true → None ≡ noted_of mask cell
    unfolding noted_of noted_in
    again h = rw (e, ← low cell k o, h) refl

    first : has_bit mask (k % 64) ≡ false → Some (with_bit mask (k % 64)) ≡ noted_of mask cell
    unfolding noted_of noted_in note_in
    first h = rw (e, ← low cell k o, h) refl

pub returns-then-not-single : goal.returns-then-not-single
returns-then-not-single c =
    let a = c.args in
    many a.seen a.cell (sym c.single.ensures ∙ not-true _ c.if-not-single.true-raw)

-- The tag is single, and the order is that of its cell.
module _ (c : After-has_bit) where
  abbrev start : Start
  start = c.before.before.before.before

  marked : single_in start.args.cell ≡ true
  marked = sym c.single.ensures ∙ not-false _ c.if-not-single.false-raw

pub returns-then-has_bit : goal.returns-then-has_bit
returns-then-has_bit c =
    let d = c in
    let a = (start (goal.at.returns-then-has_bit c).After-has_bit).args in
    again a.seen a.cell (marked (goal.at.returns-then-has_bit c).After-has_bit) _ d.order-order.ensures (sym d.has_bit.ensures ∙ c.if-has_bit.true)

pub returns : goal.returns
returns c =
    let d = c in
    let a = (start (goal.at.returns c).After-has_bit).args in
    ap Some c.with_bit.ensures ∙ first a.seen a.cell (marked (goal.at.returns c).After-has_bit) _ d.order-order.ensures (sym d.has_bit.ensures ∙ c.if-has_bit.false)
