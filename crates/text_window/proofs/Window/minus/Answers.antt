-- `Window::minus` meets its contract.
use Rattle.text_window.proofs.Numbers.{below_zero_text}
use Rattle.text_window.proofs.Prints.{and_then, same}
use Rattle.text_window.proofs.Window.minus.Goals as goal

pub returns : goal.returns
returns c = same _ (below_zero_text c.args.k) (and_then c.put.ensures c.decimal.ensures)
