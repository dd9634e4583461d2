-- The arguments of a call of the loader, and the answer that its contract fixes.
use Rattle.table.specs.Load as loads
use Rattle.table.specs.Load.{Loaded}
use Rattle.wrong_programs.specs.Kinds.{Given, octets}

abbrev pub LoadCall : Type 0
LoadCall = Given octets

-- The contract of table_index::load.
unfoldable pub load : LoadCall → Loaded
load x = loads.load x.value
