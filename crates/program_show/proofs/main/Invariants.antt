-- The octets that remain to be printed decrease with each turn. Assumes nothing.
use Rattle.std.proofs.Common.{◌-◌, ◌≤◌}
use Rattle.program_show.proofs.main.Given as goal

abbrev pub invariant-loop-input : goal.invariant-loop-input
invariant-loop-input l = l.from ≤ l.total

abbrev pub decreases-loop-input : goal.decreases-loop-input
decreases-loop-input l = l.total - l.from
