-- What is known of a field after a look at its control octet and at its first octets.
use Rattle.std.specs.Prelude.{ℕ, ◌+◌, ◌≤◌, ◌<◌, ◌≡◌, List, Some, None, get_or}
use Rattle.std.specs.Int.Bits.{bit_and}
use Rattle.table_index.specs.internal.Cells.{code_in}
use Rattle.message_field.specs.internal.Nexts.{noted_of, Passes, NoText, small_cell}
use Rattle.message_calls.specs.declared.traversal.Look.{Look}
use Rattle.message_calls.specs.declared.traversal.Look.TheVariants as looks

-- The field at an offset has a cell, and its tag is noted.
pub record Noted (cells : List ℕ) (n seen : ℕ) (s : List ℕ) (i mask : ℕ) : Type 0 where
  pub cell : ℕ
  pub found : Some cell ≡ small_cell cells n s i
  pub noted : Some mask ≡ noted_of seen cell

-- Its contents end where they should, are allowed and in their shortest form. Or they are a message, a number, or no text where its kind is text.
abbrev pub Known : List ℕ → ℕ → ℕ → List ℕ → ℕ → Look → Type 0
Known cells n seen s i (looks.Passed end mask) =
    (f : Noted cells n seen s i mask) × (code_in f.cell ≤ 4) × (end ≡ i + 1 + bit_and (get_or s i 0) 15) × Passes (code_in f.cell) (i + 1) end s
Known cells n seen s i (looks.Left code mask) =
    (f : Noted cells n seen s i mask) × (code ≡ code_in f.cell) × NoText code s i × (code < 4 → (1 ≤ code) × (code ≤ 2))
Known cells n seen s i (looks.Repeated cell) = (Some cell ≡ small_cell cells n s i) × (None ≡ noted_of seen cell)
Known cells n seen s i looks.Wide = Unit {0}
