-- `Window::hex_or_dash` meets its contract.
use Rattle.std.proofs.Common.{rules, sym}
use Rattle.text_window.specs.Digits.{hex_or_dash}
use Rattle.text_window.proofs.Pieces.{dash_is, hex_is}
use Rattle.text_window.proofs.Prints.{same}
use Rattle.text_window.proofs.Window.hex_or_dash.Goals as goal

pub returns-then-is_empty : goal.returns-then-is_empty
returns-then-is_empty c = same (hex_or_dash c.args.s.now) (sym (dash_is c.args.s.now (search rules))) c.put.ensures

pub returns-else-is_empty : goal.returns-else-is_empty
returns-else-is_empty c = same (hex_or_dash c.args.s.now) (sym (hex_is c.args.s.now (search rules))) c.hex.ensures
