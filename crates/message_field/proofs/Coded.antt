-- The step over a field by the code of what its tag means.
use Prim.Native.Nat.{ℕ, zero, suc, ◌-◌, ◌≤◌, ◌<◌}
use native.Mathlib.Omega.{arith}
use mathlib.Core.Path.{◌≡◌, refl}
use mathlib.Core.Bool.{cond}
use mathlib.Core.List.{List}
use mathlib.Core.Logic.{◌⊎◌, inl, inr}
use lib.ListN.{length}
use borrow.Author.Tests.{le-leb, lt-leb}
use Rattle.octets.specs.Text.{text}
use Rattle.table.specs.Entry.{kind_number}
use Rattle.table_index.specs.internal.Cells.{meaning_of}
use Rattle.table_index.proofs.Meanings as means
use Rattle.message.specs.Reading.{step_by_kind}
use Rattle.message.specs.Reading.{Fault, Over, Into}

module _ (size : ℕ) (s : List ℕ) where
  pub coded_message : (code : ℕ) → 4 < code → Into (code - 5) size (length s) ≡ step_by_kind (meaning_of code) size s
  unfolding step_by_kind
  coded_message code h = rw (← means.message code h)

  pub coded_text : (code : ℕ) → code ≡ 4 → cond (text s) (Over size (length s)) (Fault 7) ≡ step_by_kind (meaning_of code) size s
  unfolding step_by_kind
  coded_text code e = rw (← means.text code e)

  pub coded_wide : (code : ℕ) → 8 < length s → (code ≡ 1) ⊎ (code ≡ 2) → Fault 6 ≡ step_by_kind (meaning_of code) size s
  unfolding step_by_kind
  coded_wide code h (inl e) = rw (← means.uint code e, lt-leb (length s) 8 h)
  coded_wide code h (inr e) = rw (← means.int code e, lt-leb (length s) 8 h)

  at_most_eight : (8 < length s → ⊥) → length s ≤ 8
  at_most_eight h = omega arith

  -- Neither a message nor text, and a number only of at most eight octets.
  pub coded_over : (code : ℕ) → code < 4 → (8 < length s → code ≡ 1 → ⊥) → (8 < length s → code ≡ 2 → ⊥)
      → Over size (length s) ≡ step_by_kind (meaning_of code) size s
  unfolding step_by_kind
  coded_over zero h a b = rw (← means.raw 0 refl)
  coded_over (suc zero) h a b = rw (← means.uint 1 refl, le-leb (length s) 8 (at_most_eight (λ l. a l refl)))
  coded_over (suc (suc zero)) h a b = rw (← means.int 2 refl, le-leb (length s) 8 (at_most_eight (λ l. b l refl)))
  coded_over (suc (suc (suc zero))) h a b = rw (← means.string 3 refl)
  coded_over (suc (suc (suc (suc code)))) h a b = absurd (omega arith)

-- A code up to 4 is that of a kind other than message.
pub kind_plain : (code : ℕ) → code ≤ 4 → kind_number (meaning_of code) < 5
unfolding kind_number
kind_plain zero h = rw (← means.raw 0 refl) (omega arith)
kind_plain (suc zero) h = rw (← means.uint 1 refl) (omega arith)
kind_plain (suc (suc zero)) h = rw (← means.int 2 refl) (omega arith)
kind_plain (suc (suc (suc zero))) h = rw (← means.string 3 refl) (omega arith)
kind_plain (suc (suc (suc (suc zero)))) h = rw (← means.text 4 refl) (omega arith)
kind_plain (suc (suc (suc (suc (suc code))))) h = absurd (omega arith)
