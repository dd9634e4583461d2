-- The octets that the shortener's private functions store.
use Rattle.std.specs.Prelude.{ℕ, ◌+◌, ◌≡◌, List, length}
use Rattle.octets_store.specs.Store.{stored}
use Rattle.table.specs.Schema.{Schema}
use Rattle.message.specs.Reading.{message_from}
use Rattle.message_calls.specs.Written.{shortest_of_reading}

-- The shortest form of a message of a number, at most `levels` messages deep.
unfoldable pub shortest_within : Schema → ℕ → ℕ → List ℕ → List ℕ
shortest_within sc levels n s = shortest_of_reading sc n (message_from sc levels n 0 0 s)

-- A store of octets from a place on: the place after them, and the buffer afterwards.
pub record Put (before : List ℕ) (to : ℕ) (octets : List ℕ) (end : ℕ) (after : List ℕ) : Type 0 where
  pub place : end ≡ to + length octets
  pub buffer : after ≡ stored before to octets
