-- `Window::octets` meets its contract.
use lib.Seq.{take_all}
use Rattle.text_window.proofs.Pieces.{take_more}
use Rattle.text_window.proofs.Prints.{nothing, and_then, same}
use Rattle.text_window.proofs.Window.octets.Goals as goal

pub loop-x-init : goal.loop-x-init
loop-x-init c = nothing c.args.self.now

pub loop-x-preserved : goal.loop-x-preserved
loop-x-preserved c = same _ (take_more c.args.s.now c.loop-x.x-index c.loop-x-test.true) (and_then c.loop-x.invariant c.put.ensures)

pub returns : goal.returns
returns c = same c.args.s.now (take_all c.loop-x.x-index c.args.s.now c.loop-x-test.false) c.loop-x.invariant
