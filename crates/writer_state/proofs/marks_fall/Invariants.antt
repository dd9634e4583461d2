-- Whether the marks fall is whether those from here on do, below the last one.
use Rattle.std.proofs.Common.{◌≡◌, drop}
use Rattle.writer_state.specs.Sound.{falling}
use Rattle.writer_state.proofs.marks_fall.Given as goal

abbrev pub invariant-loop-m : goal.invariant-loop-m
invariant-loop-m l = falling l.low l.high l.marks ≡ falling l.low l.top (drop l.m-index l.marks)
