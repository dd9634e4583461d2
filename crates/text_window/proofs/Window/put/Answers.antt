-- `Window::put` meets its contract.
use Rattle.std.proofs.Common.{arith, refl}
use Rattle.text_window.proofs.Windows.{one_unplaced, one_before, one_beyond, one_inside}
use Rattle.text_window.proofs.Window.put.Goals as goal

pub returns-then-at : goal.returns-then-at
returns-then-at c =
    let w = c.args.self.now in
    record { same_buffer = refl; same_from = refl; printed = one_unplaced w.out.now w.from w.at c.args.x c.if-at.true }

pub returns-then-at-self : goal.returns-then-at-self
returns-then-at-self c =
    let w = c.args.self.now in
    record { same_buffer = refl; same_from = refl; printed = one_before w.out.now w.from w.at c.args.x c.if-at-self.true (omega arith) }

pub returns-then-i-self : goal.returns-then-i-self
returns-then-i-self c =
    let w = c.args.self.now in
    record { same_buffer = refl; same_from = refl; printed = one_inside w.out.now w.from w.at c.args.x c.if-at-self.false (omega arith) c.if-at.false }

pub returns-else-i-self : goal.returns-else-i-self
returns-else-i-self c =
    let w = c.args.self.now in
    record { same_buffer = refl; same_from = refl; printed = one_beyond w.out.now w.from w.at c.args.x c.if-at-self.false (omega arith) c.if-at.false c.if-i-self.false }
