-- The arguments of a call of the test of a table value, and the answer that its contract fixes.
use Rattle.std.specs.Prelude.{Bool}
use Rattle.table.specs.Valid as valids
use Rattle.wrong_programs.specs.Kinds.{Given, table}

abbrev pub ValidCall : Type 0
ValidCall = Given table

-- The contract of table_index::valid.
unfoldable pub valid : ValidCall → Bool
valid x = valids.valid x.value
