-- `Window::signed` meets its contract.
use Rattle.std.proofs.Common.{◌≡◌, sym, ap, negsuc}
use Rattle.numbers.proofs.Signs.{below_zero_is, from_zero}
use Rattle.text_window.specs.Digits.{signed_decimal}
use Rattle.text_window.proofs.Numbers.{from_zero_text}
use Rattle.text_window.proofs.Prints.{same}
use Rattle.text_window.proofs.Window.signed.Goals as goal
use Rattle.text_window.proofs.Window.signed.Goals.{After-below_zero}

-- A negative number is `negsuc` of what `below_zero` returns.
below : (c : After-below_zero) → c.args.z ≡ negsuc c.below_zero.result
below c = below_zero_is c.args.z c.below_zero.result c.ranges.z c.if-z-lt0.true c.below_zero.ensures

pub minus-requires : goal.minus-requires
minus-requires c = (rw (below c) at c.ranges.z).sfits

pub returns-then-z-lt0 : goal.returns-then-z-lt0
returns-then-z-lt0 c =
    same (signed_decimal c.args.z) (ap signed_decimal (sym (below (goal.at.returns-then-z-lt0 c).After-below_zero))) c.minus.ensures

pub overflow_cast-z : goal.overflow_cast-z
overflow_cast-z c = (from_zero c.args.z c.ranges.z c.if-z-lt0.false).cast

pub returns-else-z-lt0 : goal.returns-else-z-lt0
returns-else-z-lt0 c =
    let h = (from_zero c.args.z c.ranges.z c.if-z-lt0.false).same in
    same (signed_decimal c.args.z) (sym (from_zero_text c.args.z _ h)) c.decimal.ensures
