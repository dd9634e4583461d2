-- The mark at the front of octets, as the readers of all three formats test it.
use Rattle.std.specs.Prelude.{ℕ, Bool, true, false, ◌&&◌, List, [], ◌∷◌, eqb}

-- Whether octets begin with a mark.
unfoldable pub begins : List ℕ → List ℕ → Bool
begins [] s = true
begins (x ∷ mark) [] = false
begins (x ∷ mark) (y ∷ s) = eqb y x && begins mark s
