-- The shortener under any schema.
use Rattle.std.specs.Prelude.{ℕ, List}
use Rattle.reading.specs.declared.Checked.{Checked}
use Rattle.table.specs.Schema.{Schema}
use Rattle.message_calls.specs.Check.{check_under}
use Rattle.message_calls.specs.declared.Shortened.{Shortened}
use Rattle.message_calls.specs.Shorten.{shorten_result, result_buffer, shortest_under}

unfoldable pub shorten_under : Schema → ℕ → List ℕ → List ℕ → Shortened
shorten_under sc n s out = shorten_result (check_under sc n s) (shortest_under sc n s) out

unfoldable pub buffer_under : Schema → ℕ → List ℕ → List ℕ → List ℕ
buffer_under sc n s out = result_buffer (check_under sc n s) (shortest_under sc n s) out

-- The answer and the buffer for a message that is copied: it is accepted, and its shortest octets are its own. The counts do not matter here.
unfoldable pub accepted : Checked
accepted = record { refusal = 0; place = 0; fields = 0; depth = 0 }

unfoldable pub copy_answer : List ℕ → List ℕ → Shortened
copy_answer s out = shorten_result accepted s out

unfoldable pub copy_buffer : List ℕ → List ℕ → List ℕ
copy_buffer s out = result_buffer accepted s out
