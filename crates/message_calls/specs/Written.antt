-- The octets that the shortener writes for a message, by its reading.
use Rattle.std.specs.Prelude.{ℕ, List, []}
use Rattle.table.specs.Schema.{Schema}
use Rattle.message.specs.Cut.{Cut}
use Rattle.message.specs.Tree.{tree}
use Rattle.reading.specs.Reading.{Reading, accepted, refused}
use Rattle.message.specs.Shortest.{shortest}

-- The shortest form of the tree that a reading gives; nothing for a refusal.
unfoldable pub shortest_of_reading : Schema → ℕ → Reading Cut → List ℕ
shortest_of_reading sc n (accepted cut) = shortest (tree sc n cut)
shortest_of_reading sc n (refused reason place) = []
