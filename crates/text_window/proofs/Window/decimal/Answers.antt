-- `Window::decimal` meets its contract.
use Rattle.text_window.specs.Digits.{decimal}
use Rattle.text_window.proofs.Window.decimal.Goals as goal

pub returns : goal.returns
unfolding decimal
returns c = c.digits.ensures
