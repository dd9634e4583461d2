-- In each iteration the first octets are printed.
use Rattle.std.proofs.Common.{take}
use Rattle.text_window.specs.Window.{Prints}
use Rattle.text_window.proofs.Window.octets.Given as goal

abbrev pub invariant-loop-x : goal.invariant-loop-x
invariant-loop-x l = Prints l.initial.self (take l.x-index l.s) l.self
