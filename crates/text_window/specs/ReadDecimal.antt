-- The value of decimal digits, to show that printed numbers read back.
use Rattle.std.specs.Prelude.{ℕ, ◌+◌, ◌*◌, ◌-◌, List, [], ◌∷◌}

-- The value of decimal digits that follow digits of the value v.
unfoldable pub read_after : ℕ → List ℕ → ℕ
read_after v [] = v
read_after v (d ∷ s) = read_after (v * 10 + (d - 0x30)) s
