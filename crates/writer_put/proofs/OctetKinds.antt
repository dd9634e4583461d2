-- Which octets may be a value of a kind.
use mathlib.Core.Path.{◌≡◌, refl}
use mathlib.Core.Bool.{true}
use mathlib.Core.List.{List}
use Prim.Native.Nat.{ℕ}
use Rattle.table.specs.Entry.{kind_number}
use Rattle.table.specs.declared.Meaning.{Meaning}
use Rattle.table.specs.declared.Meaning.TheVariants.{Raw, Uint, Int, String, Text, Message}
use Rattle.writer_state.specs.Calls.{readable}

pub reads_any : (k : Meaning) (xs : List ℕ) → (k ≡ Text → ⊥) → true ≡ readable (kind_number k) xs
unfolding readable kind_number
reads_any Text xs n = absurd (n refl)
reads_any Raw xs n = refl
reads_any Uint xs n = refl
reads_any Int xs n = refl
reads_any String xs n = refl
reads_any (Message m) xs n = refl
