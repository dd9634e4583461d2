-- `text_message::lines::direct` meets its contract.
use Rattle.std.proofs.Common.{arith}
use Rattle.table.specs.Schema.{Schema}
use Rattle.table_index.specs.internal.Cells.{indexed}
use Rattle.message_field.proofs.FieldsByHead.{Ends}
use Rattle.text_message.proofs.CountLoop.{none_counted, all_counted, count_ends, counted_more}
use Rattle.text_message.proofs.lines.direct.Goals as goal
use Rattle.text_message.proofs.lines.direct.Goals.{In-Some}

-- Where the field ends.
module _ (c : In-Some) where
  abbrev sc : Schema
  sc = indexed c.args.cells.now

  ends_of : Ends sc 7 c.args.number c.args.s.now c.loop-end.i c.loop-end.invariant.remaining c.in-Some.field-0.tag c.in-Some.field-0.start c.in-Some.field-0.end c.in-Some.ensures
  ends_of =
      let l = c.loop-end in
      let h = c.in-Some.field-0 in
      count_ends sc c.args.number c.args.s.now l.i l.n l.invariant h.tag h.start h.end c.in-Some.ensures

pub loop-end-init : goal.loop-end-init
loop-end-init c = none_counted (indexed c.args.cells.now) c.args.number c.args.s.now c.requires

pub overflow_add-n : goal.overflow_add-n
overflow_add-n c =
    let h = ends_of (goal.at.overflow_add-n c).In-Some in
    let g = c.well_formed in
    let w = c.loop-end.invariant.few in
    omega arith

pub loop-end-smaller : goal.loop-end-smaller
loop-end-smaller c = let h = ends_of (goal.at.loop-end-smaller c).In-Some in omega arith

pub loop-end-preserved : goal.loop-end-preserved
loop-end-preserved c =
    let l = c.loop-end in
    let h = c.in-Some.field-0 in
    counted_more (indexed c.args.cells.now) c.args.number c.args.s.now l.i l.n l.invariant h.tag h.start h.end c.in-Some.ensures

pub returns : goal.returns
returns c = all_counted (indexed c.args.cells.now) c.args.number c.args.s.now c.loop-end.i c.loop-end.n c.loop-end.invariant c.in_default.ensures
