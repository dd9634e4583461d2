-- A buffer after octets are stored into it.
use Rattle.std.specs.Prelude.{ℕ, ◌+◌, cond, List, length, leb}
use Rattle.std.proofs.lemmas.List.Edits.{sets}

-- d with the octets xs from index `at` on; d itself where they do not all lie inside it.
unfoldable pub stored : List ℕ → ℕ → List ℕ → List ℕ
stored d at xs = cond (leb (at + length xs) (length d)) (sets d at xs) d
