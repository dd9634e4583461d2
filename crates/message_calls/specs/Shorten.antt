-- The answer of the shortener, and the second buffer afterwards.
use Rattle.std.specs.Prelude.{ℕ, Bool, cond, List, length, leb, eqb}
use Rattle.std.proofs.lemmas.List.Edits.{sets}
use Rattle.table.specs.Schema.{Schema, schema}
use Rattle.table.specs.declared.Table.{Table}
use Rattle.message.specs.Reading.{reading}
use Rattle.message_calls.specs.Check.{check}
use Rattle.reading.specs.Refusals as refusals
use Rattle.reading.specs.declared.Checked.{Checked}
use Rattle.message_calls.specs.Written.{shortest_of_reading}
use Rattle.message_calls.specs.declared.Shortened.{Shortened}

-- A refusal and its place, with the length 0.
unfoldable pub refusal : ℕ → ℕ → Shortened
refusal reason place = record { refusal = reason; place = place; length = 0 }

-- The shortest octets that read the same as a message under a schema, where it is accepted; nothing for a message that is not.
unfoldable pub shortest_under : Schema → ℕ → List ℕ → List ℕ
shortest_under sc n s = shortest_of_reading sc n (reading sc n s)

-- The same under a table and a revision.
unfoldable pub shortest_by_table : Table → ℕ → ℕ → List ℕ → List ℕ
shortest_by_table t revision n s = shortest_under (schema revision t) n s

-- Document 01's room: the second buffer is no shorter than the shortest octets.
unfoldable pub roomy : List ℕ → List ℕ → Bool
roomy shortest out = leb (length shortest) (length out)

-- The answer by the check's answer, the shortest octets and the second buffer: the check's refusal, or no room, or the length of the
-- shortest octets.
unfoldable pub shorten_result : Checked → List ℕ → List ℕ → Shortened
shorten_result c shortest out =
    cond (eqb c.refusal 0)
    (cond (roomy shortest out) (record { refusal = 0; place = 0; length = length shortest }) (refusal refusals.no_room 0))
    (refusal c.refusal c.place)

-- The second buffer afterwards: the shortest octets at its front where the call is accepted, else as it was.
unfoldable pub result_buffer : Checked → List ℕ → List ℕ → List ℕ
result_buffer c shortest out = cond (eqb (shorten_result c shortest out).refusal 0) (sets out 0 shortest) out

-- The shortener's answer and the second buffer afterwards, under a table and a revision.
unfoldable pub answer : Table → ℕ → ℕ → List ℕ → List ℕ → Shortened
answer t revision n s out = shorten_result (check t revision n s) (shortest_by_table t revision n s) out

unfoldable pub buffer : Table → ℕ → ℕ → List ℕ → List ℕ → List ℕ
buffer t revision n s out = result_buffer (check t revision n s) (shortest_by_table t revision n s) out
