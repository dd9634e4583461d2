-- Messages that read the same, and the shortest of them.
use Rattle.std.specs.Prelude.{ℕ, ◌<◌, ◌≡◌, List, length}
use Rattle.reading.specs.Reading.{depth_limit}
use Rattle.octets.specs.Number.{Octets}
use Rattle.table.specs.Schema.{Schema}
use Rattle.message.specs.Cut.{Cut, Good}
use Rattle.message.specs.Tree.{tree}

-- Octets have a cut under a schema and a message number.
abbrev pub HasCut : Schema → ℕ → List ℕ → Type 0
HasCut sc n s = (cut : Cut) × Good sc depth_limit n s cut

-- Document 01's term: two messages read the same when both have a cut and the trees of their cuts are equal.
pub record ReadTheSame (sc : Schema) (n : ℕ) (s r : List ℕ) : Type 0 where
  pub first : Cut
  pub second : Cut
  pub first_good : Good sc depth_limit n s first
  pub second_good : Good sc depth_limit n r second
  pub same_tree : tree sc n second ≡ tree sc n first

-- All other octets that read the same as a message are longer than these.
unfoldable pub OthersMore : Schema → ℕ → List ℕ → List ℕ → Type 0
OthersMore sc n s shortest = (r : List ℕ) → Octets r → ReadTheSame sc n s r → (r ≡ shortest → ⊥) → length shortest < length r

-- The shortest octets that read the same as a message.
pub record IsShortest (sc : Schema) (n : ℕ) (s shortest : List ℕ) : Type 0 where
  pub shortest_octets : Octets shortest
  pub reads_the_same : ReadTheSame sc n s shortest
  pub others_more : OthersMore sc n s shortest
