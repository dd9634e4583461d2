-- Cells note the entries of a dictionary: the cell of a fid holds half the octets of its fields, and 0 where the dictionary does not have the fid.
use Rattle.std.specs.Prelude.{ℕ, zero, suc, ◌+◌, ◌/◌, ◌<◌, ◌≡◌, Bool, true, false, cond, ◌&&◌, List, [], ◌∷◌, take, drop, get_or, set, eqb, leb}
use Rattle.std.proofs.Math.Option.{Option, none, some}
use Rattle.table.specs.Valid.{all_zero}
use Rattle.tib_dictionary.specs.Entry.{in_range, find, entry}
use Rattle.tib_dictionary.specs.Load.{formed, entry_of}
use Rattle.tib_dictionary.specs.declared.Entry.{Entry}

-- A field has two octets for its FID, its data, and a padding octet where the size of the data is odd. This is half their count.
unfoldable pub cell_for : Entry → ℕ
cell_for e = 1 + (e.size + 1) / 2

unfoldable pub cell_of : Option Entry → ℕ
cell_of none = 0
cell_of (some e) = cell_for e

-- The cells of the entries of a dictionary.
unfoldable pub CellsOf : List Entry → List ℕ → Type 0
CellsOf es cells = (fid : ℕ) → fid < 16384 → get_or cells fid 0 ≡ cell_of (find es fid)

-- Whether an entry can be noted: it is in range, and its cell is 0.
unfoldable pub can_note : List ℕ → Entry → Bool
can_note cells e = in_range e && eqb (get_or cells e.fid 0) 0

-- The cells after an entry is noted, if it can be.
unfoldable pub with_entry : Entry → List ℕ → List ℕ
with_entry e cells = cond (can_note cells e) (set cells e.fid (cell_for e)) cells

-- Notes at most n records at the front of octets, up to the first that is not formed or cannot be noted: the octets of those that were noted,
-- and the cells afterwards.
unfoldable pub note_from : ℕ → List ℕ → List ℕ → ℕ × List ℕ
note_from zero s cells = (0, cells)
note_from (suc n) s cells =
    let later = note_from n (drop 8 s) (with_entry (entry_of s) cells) in
    cond (formed s && can_note cells (entry_of s)) (8 + later.0, later.1) (0, cells)

-- Notes the entries in words up to the first that cannot be noted: whether all were noted, and the cells afterwards.
unfoldable pub note_all : List ℕ → List ℕ → Bool × List ℕ
note_all [] cells = (true, cells)
note_all (w ∷ ws) cells = cond (can_note cells (entry w)) (note_all ws (with_entry (entry w) cells)) (false, cells)

-- The same for the first words of a dictionary value, which has at most 512.
unfoldable pub all_noted : List ℕ → ℕ → List ℕ → Bool
all_noted words count cells = leb count 512 && (note_all (take count words) cells).0 && all_zero (drop count words)

unfoldable pub cells_after : List ℕ → ℕ → List ℕ → List ℕ
cells_after words count cells = cond (leb count 512) (note_all (take count words) cells).1 cells
