-- `text_show::second` meets its contract.
use Rattle.std.proofs.Common.{arith, refl}
use Rattle.std.proofs.lemmas.Result.{err_from_is_err_and}
use Rattle.reading.proofs.Numbers.{some_refusal}
use Rattle.text_show.proofs.Order.{frame_inside, second_refused, second_followed, second_message}
use Rattle.text_show.proofs.second.Goals as goal

pub returns-in_err-part : goal.returns-in_err-part
returns-in_err-part c t =
    let p = err_from_is_err_and c.from_residual.result c.from_residual.ensures.1 in
    rw (p.1, p.2) (second_refused t c.args.s.now _ c.in_err-part.ensures (some_refusal _))

pub returns-then-part-s : goal.returns-then-part-s
returns-then-part-s c t = rw c.at.ensures (second_followed t c.args.s.now _ c.in_ok-part.ensures refl c.if-part-s.true)

pub slice_bounds-result-count : goal.slice_bounds-result-count
slice_bounds-result-count c = (frame_inside c.args.s.now _ c.in_ok-part.ensures refl).0

pub slice_bounds-result-start : goal.slice_bounds-result-start
slice_bounds-result-start c = let h = frame_inside c.args.s.now _ c.in_ok-part.ensures refl in omega arith

pub returns : goal.returns
returns c t = second_message t c.args.s.now _ c.in_ok-part.ensures refl c.if-part-s.false
