-- Whether a message is in its shortest form already (document 02, item 2): it is accepted, and the shortest octets that read the same are the
-- message itself.
use Rattle.std.specs.Prelude.{ℕ, Bool, ◌&&◌, List, eqb}
use Rattle.octets.specs.Short.{same}
use Rattle.table.specs.Schema.{Schema}
use Rattle.table.specs.declared.Table.{Table}
use Rattle.message_calls.specs.Check.{check, check_under}
use Rattle.message_calls.specs.Shorten.{shortest_under, shortest_by_table}

-- Under a schema, and under a table and a revision.
unfoldable pub short_under : Schema → ℕ → List ℕ → Bool
short_under sc n s = eqb (check_under sc n s).refusal 0 && same (shortest_under sc n s) s

unfoldable pub short : Table → ℕ → ℕ → List ℕ → Bool
short t revision n s = eqb (check t revision n s).refusal 0 && same (shortest_by_table t revision n s) s
