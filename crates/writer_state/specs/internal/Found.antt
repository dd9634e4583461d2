-- The answers of the functions `tag_kind` and `tag_kind_by_octets`, with the place of a refusal, and the index that the second one makes.
use Rattle.std.specs.Prelude.{ℕ, ◌≡◌, List, take, replicate, true, Result, Ok, Err}
use Rattle.reading.specs.Refusals as refusals
use Rattle.reading.specs.declared.Fault.{Fault}
use Rattle.table.specs.Entry.{kind_number, inner_of}
use Rattle.table.specs.Load.{load}
use Rattle.table.specs.Valid.{valid}
use Rattle.table.specs.declared.Table.{Table}
use Rattle.table_index.specs.internal.Cells.{inserted_words}
use Rattle.writer_state.specs.ByOctets.{by_octets, usable}
use Rattle.writer_state.specs.internal.Tags.{TagAnswer, tag_kind}
use Rattle.writer_state.specs.declared.State.{State}
use Rattle.writer_state.specs.declared.Tagged.{Tagged}

-- The answer in numbers, and the place of the refusal, 0 if there is none.
pub record FoundAnswer : Type 0 where
  pub place : ℕ
  pub tagged : TagAnswer

-- A refusal at a place.
unfoldable pub none_at : ℕ → ℕ → FoundAnswer
none_at refusal place = record { place = place; tagged = record { refusal = refusal; kind = 0; inner = 0; mask = 0 } }

-- The answer by the result of the function.
abbrev pub found_answer : Result Tagged Fault → FoundAnswer
found_answer (Ok k) = record { place = 0; tagged = record { refusal = 0; kind = kind_number k.kind; inner = inner_of k.kind; mask = k.mask } }
found_answer (Err fault) = record { place = fault.place; tagged = record { refusal = refusals.number fault.refusal; kind = 0; inner = 0; mask = 0 } }

-- The answer under a loaded table, at place 0.
unfoldable pub found_under : Table → State → ℕ → ℕ → ℕ → FoundAnswer
found_under t s len tag wanted = record { place = 0; tagged = tag_kind t s len tag wanted }

-- The answer under the octets of a table.
unfoldable pub found_octets : List ℕ → State → ℕ → ℕ → ℕ → FoundAnswer
found_octets octets s len tag wanted = by_octets (usable s len) refusals.state octets (λ t. found_under t s len tag wanted) none_at

-- The cells are the index of a table's octets under a revision.
pub record IsIndex (octets : List ℕ) (revision : ℕ) (cells : List ℕ) : Type 0 where
  pub loads : (load octets).refusal ≡ 0
  pub good : valid (load octets).table ≡ true
  pub filled : cells ≡ inserted_words revision (take (load octets).table.count (load octets).table.words) (replicate 128 0)
