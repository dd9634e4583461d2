-- Windows: a buffer receives the octets of a longer text from an offset on.
use Rattle.std.specs.Prelude.{ℕ, ◌+◌, ◌-◌, ◌^◌, ◌≡◌, List, ◌++◌, length, take, drop}
use Rattle.std.proofs.lemmas.List.Edits.{sets}
use Rattle.text_window.specs.declared.Window.{Window}

-- The buffer d after receiving the text from the offset `from` on, as much of it as d can store. If the text ends before d does, the rest of
-- d stays as it was.
unfoldable pub window : List ℕ → ℕ → List ℕ → List ℕ
window d from text = take (length d) (drop from text) ++ drop (length text - from) d

-- The same for a piece at the offset `at` of the text. The octets of the piece before `from` and those beyond the end of d are not stored.
-- proofs/Windows.antt shows that the pieces of a text, one after the other, give its window.
unfoldable pub overlay : List ℕ → ℕ → ℕ → List ℕ → List ℕ
overlay d from at piece = sets d (at - from) (drop (from - at) piece)

-- The octets of a piece at `at` that are printed: those for which the offset after them is below 2 ^ 64. A text of fewer than 2 ^ 64 octets
-- loses none.
unfoldable pub placed : ℕ → List ℕ → List ℕ
placed at piece = take (2 ^ 64 - 1 - at) piece

-- A piece is printed at `at`: the returned offset `end`, and the buffer afterwards.
pub record Printed (before : List ℕ) (from at : ℕ) (piece : List ℕ) (end : ℕ) (after : List ℕ) : Type 0 where
  pub place : end ≡ at + length (placed at piece)
  pub buffer : after ≡ overlay before from at (placed at piece)

-- A window before a piece is printed and afterwards: the piece begins at the offset that the text has reached.
pub record Prints (before : Window) (piece : List ℕ) (after : Window) : Type 0 where
  pub same_buffer : after.out.ghost_name ≡ before.out.ghost_name
  pub same_from : after.from ≡ before.from
  pub printed : Printed before.out.now before.from before.at piece after.at after.out.now
