-- At each turn of `tib_rv::message` the counts so far, with those of the fields that remain, are the message's. The levels that remain for
-- nested messages decrease with each recursive call.
use Rattle.std.proofs.Common.{◌≡◌, ◌-◌, ◌≤◌, length}
use Rattle.tib_rv_field.specs.Reading.{header_fault, message_from}
use Rattle.tib_rv.proofs.MessageLoop.{State}
use Rattle.tib_rv.proofs.+message.Given as goal

abbrev pub decreases-message : goal.decreases-message
decreases-message l = l.levels

abbrev pub invariant-loop-i : goal.invariant-loop-i
invariant-loop-i l = (1 ≤ l.levels) × (header_fault l.s ≡ 0) × State (message_from (l.levels - 1)) l.at l.s l.i l.fields l.depth

abbrev pub decreases-loop-i : goal.decreases-loop-i
decreases-loop-i l = length l.s - l.i
