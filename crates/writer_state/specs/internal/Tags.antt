-- The answers of the functions `tag_kind`, which put and open share, and `cell_kind`.
use Rattle.std.specs.Prelude.{ℕ, Bool, true, cond, not, eqb, Result, Ok, Err}
use Rattle.reading.specs.Refusals as refusals
use Rattle.reading.specs.declared.Refusal.{Refusal}
use Rattle.table.specs.Entry.{kind_number, inner_of}
use Rattle.table.specs.declared.Meaning.{Meaning}
use Rattle.table.specs.declared.Table.{Table}
use Rattle.table_index.specs.internal.Cells.{meaning_in, noted_in, note_in}
use Rattle.writer_state.specs.Calls.{or_refuse, meant, mask_with, of_octets, put_refusal}
use Rattle.writer_state.specs.declared.State.{State}
use Rattle.writer_state.specs.declared.Tagged.{Tagged}
use Rattle.writer_state.specs.declared.Wanted.{Wanted}
use Rattle.writer_state.specs.declared.Wanted.TheVariants.{Uint, Int, Octets, Message, Number}

-- The number of the kind that a call wants; 3 stands for a string or a text.
abbrev pub wanted_number : Wanted → ℕ
wanted_number Uint = 1
wanted_number Int = 2
wanted_number Octets = 3
wanted_number Message = 5
wanted_number (Number n) = n

-- Whether a kind is the one that a call wants, by the kinds' numbers.
unfoldable pub fits : ℕ → ℕ → Bool
fits wanted kind = cond (eqb wanted 3) (of_octets kind) (eqb kind wanted)

-- The answer in numbers: the refusal, or 0 with the number of the kind, the message number of its contents, and the mask with the tag noted.
pub record TagAnswer : Type 0 where
  pub refusal : ℕ
  pub kind : ℕ
  pub inner : ℕ
  pub mask : ℕ

-- The answer by the result of the function.
abbrev pub tag_answer : Result Tagged Refusal → TagAnswer
tag_answer (Ok k) = record { refusal = 0; kind = kind_number k.kind; inner = inner_of k.kind; mask = k.mask }
tag_answer (Err refusal) = record { refusal = refusals.number refusal; kind = 0; inner = 0; mask = 0 }

-- A refusal; in no refusal the number of a kind, its inner number and a mask.
unfoldable pub or_known : ℕ → Meaning → ℕ → TagAnswer
or_known refusal m mask =
    cond (eqb refusal 0) (record { refusal = 0; kind = kind_number m; inner = inner_of m; mask = mask }) (record { refusal = refusal; kind = 0; inner = 0; mask = 0 })

-- The refusal of a put of no octets, which needs no room; in no refusal what the tag means, and the mask with the tag noted.
unfoldable pub tag_kind : Table → State → ℕ → ℕ → ℕ → TagAnswer
tag_kind t s len tag wanted =
    let m = meant t s tag in
    or_known (put_refusal t s tag len (fits wanted (kind_number m)) true 0) m (mask_with t s tag)

-- The same by the cell of the tag and the mask of the message, where neither the state nor the table is refused.
unfoldable pub cell_kind : ℕ → ℕ → ℕ → TagAnswer
cell_kind cell mask wanted =
    let m = meaning_in cell in
    or_known (or_refuse (fits wanted (kind_number m)) refusals.tag_or_kind (or_refuse (not (noted_in mask cell)) refusals.repeated 0)) m (note_in mask cell)
