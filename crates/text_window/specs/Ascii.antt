-- String constants as octets.
use Rattle.std.specs.Prelude.{ℕ, List, [] as none, ◌∷◌ as ◌before◌}
use Prim.Native.Char.{code}
use Prim.Native.String.{String, [], ◌∷◌}

-- The codes of a string's characters. All strings that are printed consist of ASCII characters.
unfoldable pub ascii : String → List ℕ
ascii [] = none
ascii (c ∷ s) = code c before ascii s
