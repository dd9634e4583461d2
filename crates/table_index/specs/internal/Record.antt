-- The result of reading the record at the front of octets of a field table.
use Rattle.std.specs.Prelude.{ℕ, Option, Some, ◌%◌, ◌^◌, ◌≡◌, List, take}
use Rattle.std.specs.Bool.{then_some}
use Rattle.table.specs.Entry.{entry}
use Rattle.table.specs.Load.{in_range, record_size, word_of, well_formed}
use Rattle.table_index.specs.declared.record.Record.{Record}

-- The record at the front, if it is well-formed.
unfoldable pub record_of : List ℕ → Option Record
record_of s =
    let r = take (record_size s) s in
    then_some (well_formed r) (record { word = word_of r; size = record_size s })

-- A word with a size, if the entry in the word is in range.
unfoldable pub sized_word : ℕ → ℕ → Option Record
sized_word word size = then_some (in_range (entry word)) (record { word = word; size = size })

-- The word of a well-formed record at the front that has no mark, and so eight octets.
pub record Unmarked (s : List ℕ) (word : ℕ) : Type 0 where
  pub mark : word % 2 ^ 8 ≡ 0
  pub is : Some (record { word = word; size = 8 }) ≡ record_of s
