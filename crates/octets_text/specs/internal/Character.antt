-- One character of text, for the private functions that read character by character.
use Rattle.std.specs.Prelude.{ℕ, suc, Bool, true, false, cond, ◌&&◌, List, [], ◌∷◌, length}
use Rattle.std.proofs.Math.Option.{Option, none, some}
use Rattle.octets.specs.Utf8.{Range, grammar}
use Rattle.octets.specs.Text.{within, after}

-- Whether the first octets are in these ranges, one in each.
unfoldable pub follow : List Range → List ℕ → Bool
follow [] s = true
follow (r ∷ rs) [] = false
follow (r ∷ rs) (x ∷ s) = within r x && follow rs s

-- The size of a character, by the octets after its first octet and their ranges (`none`: it is no lead). 0 if one is missing or out of range.
unfoldable pub size_with : List ℕ → Option (List Range) → ℕ
size_with s none = 0
size_with s (some rs) = cond (follow rs s) (suc (length rs)) 0

-- The size of the character at the front, 0 if there is none.
unfoldable pub character_size : List ℕ → ℕ
character_size [] = 0
character_size (x ∷ s) = size_with s (after grammar x)
