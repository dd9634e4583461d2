-- Schemas: which kind each tag has, and which tags are single. Definitions about messages depend on a schema, and a field table gives one for
-- each revision of the profile.
use Rattle.std.specs.Prelude.{ℕ, Bool, ◌&&◌, ◌||◌, List, eqb}
use Rattle.table.specs.Entry.{Entry, entries, find, marked_single}
use Rattle.table.specs.declared.Meaning.{Meaning}
use Rattle.table.specs.declared.Table.{Table}

-- The kind of a tag in messages of a number: `means number tag`. A message of a number has at most one field with a tag that is single there:
-- `single number tag`.
pub record Schema : Type 0 where
  pub means : ℕ → ℕ → Meaning
  pub single : ℕ → ℕ → Bool

-- Whether a number is one of the profile's revisions.
unfoldable pub is_revision : ℕ → Bool
is_revision revision = eqb revision 1 || eqb revision 2

-- The schema of a list of entries under a revision, and of a table. Under revision 1 the marks have no effect: no tag is single.
unfoldable pub schema_of : ℕ → List Entry → Schema
schema_of revision es = record { means = find es; single = λ number tag. eqb revision 2 && marked_single es number tag }

unfoldable pub schema : ℕ → Table → Schema
schema revision t = schema_of revision (entries t)
