-- In each iteration the hex digits of the first octets are printed.
use Rattle.std.proofs.Common.{take}
use Rattle.text_window.specs.Digits.{hex}
use Rattle.text_window.specs.Window.{Prints}
use Rattle.text_window.proofs.Window.hex.Given as goal

abbrev pub invariant-loop-x : goal.invariant-loop-x
invariant-loop-x l = Prints l.initial.self (hex (take l.x-index l.s)) l.self
