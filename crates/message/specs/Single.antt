-- Single fields (document 02, item 5): a message has at most one field with a tag that is single in messages of its number. A nested message is
-- a message of its own.
use Rattle.std.specs.Prelude.{ℕ, Bool, false, ◌&&◌, ◌||◌, List, [], ◌∷◌, eqb}
use Rattle.table.specs.Schema.{Schema}

-- Whether a tag is one of some tags.
unfoldable pub among : ℕ → List ℕ → Bool
among tag [] = false
among tag (other ∷ others) = eqb other tag || among tag others

-- Whether a field repeats one of the fields whose tags are `others`: its tag is one of theirs, and is single.
unfoldable pub repeats : Schema → ℕ → List ℕ → ℕ → Bool
repeats sc number others tag = sc.single number tag && among tag others
