-- `Window::octet` meets its contract.
use Rattle.text_window.specs.Digits.{hex}
use Rattle.text_window.proofs.Prints.{and_then, one}
use Rattle.text_window.proofs.Window.octet.Goals as goal

pub returns : goal.returns
unfolding hex
returns c = and_then (one c.digit.ensures c.put.ensures) (one c.digit-2.ensures c.put-2.ensures)
