-- `Window::hex` meets its contract.
use Rattle.std.proofs.Common.{ap, sym}
use lib.Seq.{take_all}
use Rattle.text_window.specs.Digits.{hex}
use Rattle.text_window.proofs.Pieces.{hex_nil, hex_more}
use Rattle.text_window.proofs.Prints.{nothing, and_then, same}
use Rattle.text_window.proofs.Window.hex.Goals as goal

pub loop-x-init : goal.loop-x-init
loop-x-init c = same _ (sym hex_nil) (nothing c.args.self.now)

pub loop-x-preserved : goal.loop-x-preserved
loop-x-preserved c = same _ (hex_more c.args.s.now c.loop-x.x-index c.loop-x-test.true) (and_then c.loop-x.invariant c.octet.ensures)

pub returns : goal.returns
returns c = same _ (ap hex (take_all c.loop-x.x-index c.args.s.now c.loop-x-test.false)) c.loop-x.invariant
