-- Messages that the reading accepts, at any depth.
use Rattle.std.specs.Prelude.{ℕ, List}
use Rattle.table.specs.Schema.{Schema}
use Rattle.reading.specs.internal.Verdicts.{IsAccepted}
use Rattle.message.specs.Reading.{message_from}

-- A message of a number, at most `levels` messages deep, is accepted.
unfoldable pub Accepts : Schema → ℕ → ℕ → List ℕ → Type 0
Accepts sc levels n s = IsAccepted (message_from sc levels n 0 0 s)
