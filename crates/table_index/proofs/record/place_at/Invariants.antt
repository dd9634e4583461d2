-- `place_at` steps from record to record; none of them begins after the octets end.
use mathlib.Core.Path.{◌≡◌}
use Rattle.table.specs.Load.{place_at}
use Rattle.table_index.proofs.record.place_at.Given as goal

abbrev pub invariant-loop-n : goal.invariant-loop-n
invariant-loop-n l = l.at ≡ place_at l.s l._n
