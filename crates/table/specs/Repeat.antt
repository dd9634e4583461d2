-- Words without a repeated pair of message number and field tag.
use Rattle.std.specs.Prelude.{ℕ, Bool, true, not, ◌&&◌, List, [], ◌∷◌}
use Rattle.table.specs.Load.{pair, seen}

-- Whether no two words have the same pair.
unfoldable pub distinct : List ℕ → Bool
distinct [] = true
distinct (w ∷ ws) = not (seen (pair w) ws) && distinct ws
