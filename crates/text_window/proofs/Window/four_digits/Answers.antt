-- `Window::four_digits` meets its contract.
use Rattle.text_window.specs.Digits.{four_digits}
use Rattle.text_window.proofs.Pieces.{four_is}
use Rattle.text_window.proofs.Prints.{and_then, same}
use Rattle.text_window.proofs.Window.four_digits.Goals as goal

pub returns : goal.returns
returns c = same (four_digits c.args.n) (four_is c.args.n) (and_then c.octet.ensures c.octet-2.ensures)
