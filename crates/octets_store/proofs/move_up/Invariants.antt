-- `octets_store::move_up` meets its contract: at each turn, moving the octets that remain ends where moving all would.
use Rattle.std.proofs.Common.{◌≡◌, ◌≤◌, length}
use Rattle.octets_store.specs.internal.Moved.{moved}
use Rattle.octets_store.proofs.move_up.Given as goal

abbrev pub invariant-loop-remaining : goal.invariant-loop-remaining
invariant-loop-remaining l =
    (l.remaining ≤ l.n) × (length l.out ≡ length l.initial.out) × (moved l.out l.at l.remaining l.by ≡ moved l.initial.out l.at l.n l.by)

abbrev pub decreases-loop-remaining : goal.decreases-loop-remaining
decreases-loop-remaining l = l.remaining
