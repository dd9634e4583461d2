-- Which states of the writer are sound.
use Rattle.std.specs.Prelude.{ℕ, ◌+◌, Bool, true, ◌&&◌, List, [], ◌∷◌, take, leb}
use Rattle.reading.specs.Reading.{message_limit, last_number}
use Rattle.table.specs.Schema.{is_revision}
use Rattle.writer_state.specs.declared.State.{State}

-- Whether marks lie between two places and none is above the one before it.
unfoldable pub falling : ℕ → ℕ → List ℕ → Bool
falling low high [] = true
falling low high (m ∷ ms) = leb low m && leb m high && falling low m ms

-- Whether message numbers are allowed.
unfoldable pub small : List ℕ → Bool
small [] = true
small (n ∷ ns) = leb n last_number && small ns

-- With k fields open, k marks and k + 1 message numbers are in use. The others are not tested, and no mask is. With seven fields open the innermost
-- message is at the depth limit.
unfoldable pub sound : State → Bool
sound s =
    leb s.length message_limit
    && leb s.start s.length
    && leb s.opened 7
    && is_revision s.revision
    && falling s.start s.length (take s.opened s.marks)
    && small (take (s.opened + 1) s.numbers)
