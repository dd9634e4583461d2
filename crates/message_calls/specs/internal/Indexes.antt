-- What an index is built for: the schema that a call reads a message under, or the refusal of the table or of the revision.
use Rattle.std.specs.Prelude.{ℕ, cond, ◌&&◌, List, Result, Ok, Err, eqb}
use Rattle.reading.specs.Refusals as refusals
use Rattle.reading.specs.Refusals.{number}
use Rattle.reading.specs.Reading.{Reading, accepted, refused}
use Rattle.reading.specs.declared.Fault.{Fault}
use Rattle.table.specs.Load.{load}
use Rattle.table.specs.Schema.{Schema, is_revision, schema}
use Rattle.table.specs.Valid.{valid}
use Rattle.table.specs.declared.Table.{Table}
use Rattle.table_index.specs.internal.Cells.{indexed}

-- By a table value that a caller passes, and by the octets of a table.
unfoldable pub schema_loaded : Table → ℕ → Reading Schema
schema_loaded t revision = cond (valid t && is_revision revision) (accepted (schema revision t)) (refused refusals.table 0)

unfoldable pub schema_octets : List ℕ → ℕ → Reading Schema
schema_octets octets revision =
    let l = load octets in
    cond (eqb l.refusal 0) (cond (is_revision revision) (accepted (schema revision l.table)) (refused refusals.table 0)) (refused l.refusal l.place)

-- What the functions that build an index return, with its cells afterwards.
abbrev pub schema_of : Result (Unit {0}) Fault → List ℕ → Reading Schema
schema_of (Ok x) cells = accepted (indexed cells)
schema_of (Err f) cells = refused (number f.refusal) f.place
