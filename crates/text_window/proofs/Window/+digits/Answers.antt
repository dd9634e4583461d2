-- `Window::digits` meets its contract: the digits before the last one, and the last one.
use Rattle.std.proofs.Common.{arith}
use Rattle.text_window.proofs.Numbers.{within_none, within_one, within_more}
use Rattle.text_window.proofs.Prints.{nothing, one, and_then, same}
use Rattle.text_window.proofs.Window.+digits.Goals as goal

pub returns-then-most-eq0 : goal.returns-then-most-eq0
returns-then-most-eq0 t c = same _ (within_none c.args.most c.args.n c.if-most-eq0.true) (nothing c.args.self.now)

pub returns-then-n-lt10 : goal.returns-then-n-lt10
returns-then-n-lt10 t c = let h = c.if-most-eq0.false in same _ (within_one c.args.most c.args.n (omega arith) c.if-n-lt10.true) (one c.digit.ensures c.put.ensures)

pub returns : goal.returns
returns t c =
    let h = c.if-most-eq0.false in
    same _ (within_more c.args.most c.args.n (omega arith) c.if-n-lt10.false) (and_then c.digits.ensures (one c.digit-2.ensures c.put-2.ensures))
