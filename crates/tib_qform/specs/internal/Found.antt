-- What the private functions return.
use Rattle.std.specs.Prelude.{ℕ, ◌≡◌, List, Option, Some, None, Result, Ok, Err}
use Rattle.std.proofs.Math.Option as maybe
use Rattle.reading.specs.Reading.{Reading, accepted, refused}
use Rattle.reading.specs.Refusals as refusals
use Rattle.reading.specs.Refusals.{number}
use Rattle.reading.specs.declared.Fault.{Fault}
use Rattle.tib_field.specs.Kth.{field_of}
use Rattle.tib_dictionary.specs.internal.Cells.{CellsOf}
use Rattle.tib_dictionary.specs.declared.Entry.{Entry}
use Rattle.tib_qform_field.specs.Layout.{Parts, fid_of}
use Rattle.tib_qform.specs.declared.Found.{Found}
use Rattle.tib_qform.specs.CheckAndField.{places}

-- The place and the fid of a field.
abbrev pub place_and_fid : ℕ → Parts → Found
place_and_fid at f = record { place = at; fid = fid_of f }

-- The same for a field that was looked for, or that there is none.
abbrev pub found_of : maybe.Option (ℕ × Parts) → Option Found
found_of maybe.none = None
found_of (maybe.some f) = Some (place_and_fid f.0 f.1)

-- The reading that a result tells.
abbrev pub in_reading : {A : Type 0} → Result A Fault → Reading A
in_reading (Ok x) = accepted x
in_reading (Err f) = refused (number f.refusal) f.place

-- The place and the fid of the k-th field of a reading, or its refusal.
abbrev pub kth_by : ℕ → Reading (List Parts) → Reading Found
kth_by k r = field_of refused (λ at f. accepted (place_and_fid at f)) places k r

-- A dictionary that was read is noted in cells, or its refusal is that of a table, at the place that the result has.
abbrev pub Noted : Reading (List Entry) → Result (Unit {0}) ℕ → List ℕ → Type 0
Noted read (Ok _) cells = (es : List Entry) × (read ≡ accepted es) × CellsOf es cells
Noted read (Err place) cells = read ≡ refused refusals.table place
