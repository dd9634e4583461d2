-- `wanted` reads the contents in the span of the field.
use borrow.Author.Rules.{rules}
use native.Mathlib.Omega.{arith}
use mathlib.Core.Path.{◌∙◌}
use Rattle.table_index.specs.internal.Cells.{indexed}
use Rattle.message_calls.proofs.LookupAnswers.{absent, Present, present}
use Rattle.message_calls.proofs.outermost.wanted.Goals as goal
use Rattle.message_calls.proofs.outermost.wanted.Goals.{In_ok-start}

pub returns-in_err-start : goal.returns-in_err-start
returns-in_err-start c =
    let a = c.args in
    rw c.from_residual.ensures (absent (indexed a.index.now.cells) a.number a.message.now a.tag a.which c.requires c.pick.result c.pick.ensures c.in_err-start.was)

-- A field was found.
module _ (c : In_ok-start) where
  here : Present (indexed c.args.index.now.cells) c.args.number c.args.message.now c.args.tag c.args.which c.requires c.in_ok-start.field-0.start c.in_ok-start.field-0.end
  here =
      present (indexed c.args.index.now.cells) c.args.number c.args.message.now c.args.tag c.args.which c.requires c.in_ok-start.field-0
      c.pick.result c.pick.ensures c.in_ok-start.was

pub slice_bounds-contents-count : goal.slice_bounds-contents-count
slice_bounds-contents-count c = (here (goal.at.slice_bounds-contents-count c).In_ok-start).ordered

pub slice_bounds-contents-start : goal.slice_bounds-contents-start
slice_bounds-contents-start c = let h = (here (goal.at.slice_bounds-contents-start c).In_ok-start).ordered in search rules

pub slice_bounds-contents-end : goal.slice_bounds-contents-end
slice_bounds-contents-end c = let h = here (goal.at.slice_bounds-contents-end c).In_ok-start in let o = h.ordered in let k = h.inside in omega arith

pub returns : goal.returns
returns c = c.contents.ensures ∙ rw c.find-kind.ensures (here (goal.at.returns c).In_ok-start).answers
