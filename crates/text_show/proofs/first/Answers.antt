-- `text_show::first` meets its contract.
use Rattle.std.proofs.Common.{arith, refl, length, drop, ◌-◌}
use lib.ListN.{length-drop}
use lib.Seq.{take_all}
use Rattle.std.proofs.lemmas.Result.{err_from_is_err_and}
use Rattle.reading.proofs.Numbers.{some_refusal}
use Rattle.text_show.proofs.Order.{frame_inside, first_refused, table_refused, table_loaded}
use Rattle.text_show.proofs.first.Goals as goal

pub returns-in_err-part : goal.returns-in_err-part
returns-in_err-part c =
    let p = err_from_is_err_and c.from_residual.result c.from_residual.ensures.1 in
    rw (p.1, p.2) (first_refused c.args.s.now _ c.in_err-part.ensures (some_refusal _))

pub slice_bounds-load-count : goal.slice_bounds-load-count
slice_bounds-load-count c = (frame_inside c.args.s.now _ c.in_ok-part.ensures refl).0

pub slice_bounds-load-start : goal.slice_bounds-load-start
slice_bounds-load-start c = let h = frame_inside c.args.s.now _ c.in_ok-part.ensures refl in omega arith

pub slice_bounds-load-end : goal.slice_bounds-load-end
slice_bounds-load-end c = let h = frame_inside c.args.s.now _ c.in_ok-part.ensures refl in omega arith

pub returns-in_err-table : goal.returns-in_err-table
returns-in_err-table c =
    let p = err_from_is_err_and c.from_residual-in_err-table.result c.from_residual-in_err-table.ensures.1 in
    rw (p.1, p.2) (table_refused c.args.s.now _ c.in_ok-part.ensures refl _ c.in_err-table.ensures (some_refusal _))

pub slice_bounds-result-count : goal.slice_bounds-result-count
slice_bounds-result-count c = (frame_inside c.args.s.now _ c.in_ok-part.ensures refl).1

pub slice_bounds-result-start : goal.slice_bounds-result-start
slice_bounds-result-start c = let h = frame_inside c.args.s.now _ c.in_ok-part.ensures refl in omega arith

pub returns : goal.returns
returns c =
    let s = c.args.s.now in
    let end = c.in_ok-part.part.end in
    let o = take_all (length s - end) (drop end s) (simp length-drop (omega arith)) in
    rw (← o) at (table_loaded s _ c.in_ok-part.ensures refl _ c.in_ok-table.ensures refl)
