-- What a tag means, by its code in an index.
use Prim.Native.Nat.{ℕ, zero, suc, ◌<◌}
use native.Mathlib.Omega.{arith}
use mathlib.Core.Path.{◌≡◌, refl}
use mathlib.Core.List.{List}
use Rattle.table_index.specs.internal.Cells.{code_in, meaning_of, meaning_in, cell_for, indexed}
use Rattle.table_index.proofs.Meanings as means
use Rattle.message.specs.Tree.{value}
use Rattle.message.specs.Shortest.{least_contents}
use Rattle.message.proofs.Next.{Plain}

pub plain_code : (code : ℕ) → code < 5 → Plain (meaning_of code)
unfolding meaning_of Plain
plain_code zero h = tt
plain_code (suc zero) h = tt
plain_code (suc (suc zero)) h = tt
plain_code (suc (suc (suc zero))) h = tt
plain_code (suc (suc (suc (suc zero)))) h = tt
plain_code (suc (suc (suc (suc (suc code))))) h = absurd (omega arith)

-- The least contents of a field that is no number are its contents.
pub octets_code : (code : ℕ) (s : List ℕ) → (code ≡ 1 → ⊥) → (code ≡ 2 → ⊥) → least_contents (value (meaning_of code) s) ≡ s
unfolding meaning_of least_contents value
octets_code zero s a b = refl
octets_code (suc zero) s a b = absurd (a refl)
octets_code (suc (suc zero)) s a b = absurd (b refl)
octets_code (suc (suc (suc zero))) s a b = refl
octets_code (suc (suc (suc (suc zero)))) s a b = refl
octets_code (suc (suc (suc (suc (suc code))))) s a b = rw (← means.message (suc (suc (suc (suc (suc code))))) (omega arith))

-- The code of a tag's cell says what the tag means.
pub code_means : (cells : List ℕ) (n tag cell code : ℕ) → cell ≡ cell_for cells n tag → code ≡ code_in cell → meaning_of code ≡ (indexed cells).means n tag
unfolding indexed meaning_in
code_means cells n tag cell code e f = rw (f, e)
