-- The answer of the check.
use Rattle.std.specs.Prelude.{ℕ, cond, ◌&&◌, List, length, ltb}
use Rattle.reading.specs.Refusals as refusals
use Rattle.reading.specs.Reading.{Reading, message_limit, last_number}
use Rattle.reading.specs.Checks.{refusal, counts}
use Rattle.reading.specs.declared.Checked.{Checked}
use Rattle.table.specs.Schema.{Schema, is_revision, schema}
use Rattle.table.specs.Valid.{valid}
use Rattle.table.specs.declared.Table.{Table}
use Rattle.message.specs.Cut.{Cut}
use Rattle.message.specs.Tree.{tree, fields, depth}
use Rattle.message.specs.Reading.{reading}

-- A reading's refusal, or the counts of its tree.
unfoldable pub tree_counts : Schema → ℕ → Reading Cut → Checked
tree_counts sc n r = counts (λ (cut : Cut). fields (tree sc n cut)) (λ (cut : Cut). depth (tree sc n cut)) r

-- The check under a schema. A message over the length limit is refused first, then a message number over the last.
unfoldable pub check_under : Schema → ℕ → List ℕ → Checked
check_under sc n s =
    cond (ltb message_limit (length s)) (refusal refusals.too_long 0)
    (cond (ltb last_number n) (refusal refusals.table 0)
    (tree_counts sc n (reading sc n s)))

-- The check under a table and a revision. A message over the length limit is refused first, then a table value that the loader cannot return and
-- a number that is no revision.
unfoldable pub check : Table → ℕ → ℕ → List ℕ → Checked
check t revision n s =
    cond (ltb message_limit (length s)) (refusal refusals.too_long 0)
    (cond (valid t && is_revision revision) (check_under (schema revision t) n s) (refusal refusals.table 0))
