-- `text_message::lines::write` meets its contract.
use Rattle.std.proofs.Common.{ℕ, ◌≡◌, ◌-◌, ◌≤◌, List, take, drop, arith}
use Rattle.table.specs.declared.Meaning.TheVariants.{Message}
use Rattle.table_index.specs.internal.Cells.{indexed}
use Rattle.message.specs.internal.Accepts.{Accepts}
use Rattle.message_field.proofs.FieldsByHead.{Ends}
use Rattle.text_message.proofs.WriteLoop.{plain_kind, begun, ended, next_ends, leaf_contents, leaf_written, nested_accepts, nested_written}
use Rattle.text_message.proofs.lines.+write.Goals as goal
use Rattle.text_message.proofs.lines.+write.Goals.{In-Some, After-find}

-- Where a field was found.
module _ (t : ℕ) (c : In-Some t) where
  ends_of : Ends (indexed c.args.cells.now) (c.args.levels - 1) c.args.number c.args.s.now c.loop-tag.i c.loop-tag.invariant.remaining c.in-Some.field-0.tag c.in-Some.field-0.start c.in-Some.field-0.end c.in-Some.ensures
  ends_of =
      let l = c.loop-tag in
      let h = c.in-Some.field-0 in
      next_ends (indexed c.args.cells.now) c.args.levels c.args.number c.args.s.now c.args.w.now l.i l.w l.invariant h.tag h.start h.end c.in-Some.ensures

-- Where its kind was found.
module _ (t : ℕ) (c : After-find t) where
  abbrev contents : List ℕ
  contents = take (c.in-Some.field-0.end - c.in-Some.field-0.start) (drop c.in-Some.field-0.start c.args.s.now)

  inside : (m : ℕ) → c.find.result ≡ Message m
      → (1 ≤ c.args.levels - 1) × Accepts (indexed c.args.cells.now) (c.args.levels - 1) m contents × Accepts (indexed c.args.cells.now) 8 m contents
  inside m q =
      let l = c.loop-tag in
      let h = c.in-Some.field-0 in
      nested_accepts (indexed c.args.cells.now) c.args.levels c.args.number c.args.s.now c.args.w.now l.i l.w l.invariant h.tag h.start h.end c.in-Some.ensures
      c.find.result c.find.ensures c.requires.levels_le_depth_limit m q

pub loop-tag-init : goal.loop-tag-init
loop-tag-init t c = begun (indexed c.args.cells.now) c.args.levels c.args.number c.args.s.now c.args.w.now c.requires.accepts

pub slice_bounds-contents-count : goal.slice_bounds-contents-count
slice_bounds-contents-count t c = (ends_of t (goal.at.slice_bounds-contents-count t c).In-Some).ordered

pub slice_bounds-contents-start : goal.slice_bounds-contents-start
slice_bounds-contents-start t c = let h = ends_of t (goal.at.slice_bounds-contents-start t c).In-Some in omega arith

pub slice_bounds-contents-end : goal.slice_bounds-contents-end
slice_bounds-contents-end t c = let h = ends_of t (goal.at.slice_bounds-contents-end t c).In-Some in omega arith

pub message_line-requires : goal.message_line-requires
message_line-requires t c = (inside t (goal.at.message_line-requires t c).After-find c.in-Message.m c.in-Message.is).2

pub overflow_sub-levels : goal.overflow_sub-levels
overflow_sub-levels t c = let h = (inside t (goal.at.overflow_sub-levels t c).After-find c.in-Message.m c.in-Message.is).0 in omega arith

pub write-requires : goal.write-requires
write-requires t c =
    let h = inside t (goal.at.write-requires t c).After-find c.in-Message.m c.in-Message.is in
    let k = h.0 in
    let p = c.decreases in
    let l = c.requires.levels_le_depth_limit in
    (omega arith, (omega arith, h.1))

pub loop-tag-smaller-in-Message : goal.loop-tag-smaller-in-Message
loop-tag-smaller-in-Message t c = let h = ends_of t (goal.at.loop-tag-smaller-in-Message t c).In-Some in omega arith

pub loop-tag-preserved-in-Message : goal.loop-tag-preserved-in-Message
loop-tag-preserved-in-Message t c =
    let a = c.args in
    let l = c.loop-tag in
    let h = c.in-Some.field-0 in
    nested_written (indexed a.cells.now) a.levels a.number a.s.now a.w.now l.i l.w l.invariant h.tag h.start h.end c.in-Some.ensures
    c.find.result c.find.ensures c.requires.levels_le_depth_limit c.in-Message.m c.in-Message.is
    c.message_line.new.w c.write.new.w c.message_line.ensures c.write.ensures

pub leaf_line-requires : goal.leaf_line-requires
leaf_line-requires t c =
    let a = c.args in
    let l = c.loop-tag in
    let h = c.in-Some.field-0 in
    leaf_contents (indexed a.cells.now) a.levels a.number a.s.now a.w.now l.i l.w l.invariant h.tag h.start h.end c.in-Some.ensures
    c.find.result c.find.ensures (plain_kind c.find.result c.in_default-find.not-Message)

pub loop-tag-smaller : goal.loop-tag-smaller
loop-tag-smaller t c = let h = ends_of t (goal.at.loop-tag-smaller t c).In-Some in omega arith

pub loop-tag-preserved : goal.loop-tag-preserved
loop-tag-preserved t c =
    let a = c.args in
    let l = c.loop-tag in
    let h = c.in-Some.field-0 in
    leaf_written (indexed a.cells.now) a.levels a.number a.s.now a.w.now l.i l.w l.invariant h.tag h.start h.end c.in-Some.ensures
    c.find.result c.find.ensures (plain_kind c.find.result c.in_default-find.not-Message)
    c.leaf_line.new.w c.leaf_line.ensures

pub returns : goal.returns
returns t c =
    let a = c.args in
    ended (indexed a.cells.now) a.levels a.number a.s.now a.w.now c.loop-tag.i c.loop-tag.w c.loop-tag.invariant c.in_default.ensures
