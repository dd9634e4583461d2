-- The dozen worked samples that document 01 marks to be proved, as one list under one statement about the definitions, and samples of single
-- fields.
use Rattle.std.specs.Prelude.{ℕ, ◌≡◌, List, [], ◌∷◌, ℤ, pos, negsuc, replicate}
use Rattle.table.specs.Entry.{Entry}
use Rattle.table.specs.Schema.{Schema, schema_of}
use Rattle.message.specs.Tree.{Tree, end, leaf, nested, raw, uint, int, tree}
use Rattle.reading.specs.Reading.{Reading, accepted, refused}
use Rattle.message.specs.Cut.{Cut}
use Rattle.message.specs.Reading.{reading}
use Rattle.message.specs.Shortest.{shortest}

-- The outcome of reading a message: its tree, with the tree's shortest form, or a refusal with its place.
pub data Outcome : Type 0 where
  reads : Tree → List ℕ → Outcome
  refuses : ℕ → ℕ → Outcome

unfoldable pub outcome_of : Schema → Reading Cut → Outcome
outcome_of sc (accepted cut) = reads (tree sc 0 cut) (shortest (tree sc 0 cut))
outcome_of sc (refused reason place) = refuses reason place

-- A sample: a revision of the profile, a table, a message with number 0, and what is expected of it.
pub record Sample : Type 0 where
  pub revision : ℕ
  pub table : List Entry
  pub message : List ℕ
  pub expected : Outcome

unfoldable pub sample : ℕ → List Entry → List ℕ → Outcome → Sample
sample revision table message expected = record { revision = revision; table = table; message = message; expected = expected }

unfoldable pub outcome : Sample → Outcome
outcome x = let sc = schema_of x.revision x.table in outcome_of sc (reading sc 0 x.message)

-- Every sample of a list has the expected outcome.
unfoldable pub Hold : List Sample → Type 0
Hold [] = Unit {0}
Hold (x ∷ xs) = (outcome x ≡ x.expected) × Hold xs

-- A table with one entry: tag 12 in message 0, of a kind.
unfoldable pub only : ℕ → List Entry
only kind = record { number = 0; tag = 12; kind = kind; inner = 0; mark = 0 } ∷ []

-- A table in which tag 1 of message 0 is message 1, and tag 0 of that is a uint with a mark.
unfoldable pub nested_table : ℕ → List Entry
nested_table mark = record { number = 0; tag = 1; kind = 5; inner = 1; mark = 0 } ∷ record { number = 1; tag = 0; kind = 1; inner = 0; mark = mark } ∷ []

-- One field with the tag 12, of kind uint (1) or int (2).
unfoldable pub reads_uint : ℕ → List ℕ → ℕ → List ℕ → Sample
reads_uint revision s v octets = sample revision (only 1) s (reads (leaf 12 (uint v) end) octets)

unfoldable pub reads_int : ℕ → List ℕ → ℤ → List ℕ → Sample
reads_int revision s z octets = sample revision (only 2) s (reads (leaf 12 (int z) end) octets)

-- The samples of document 01. Its records have no mark, so the revision has no effect.
unfoldable pub samples : ℕ → List Sample
samples r =
    reads_uint r (0xc0 ∷ []) 0 (0xc0 ∷ []) ∷
    reads_uint r (0xc2 ∷ 0x01 ∷ 0x23 ∷ []) 291 (0xc2 ∷ 0x01 ∷ 0x23 ∷ []) ∷
    reads_int r (0xc1 ∷ 0x80 ∷ []) (negsuc 127) (0xc1 ∷ 0x80 ∷ []) ∷
    reads_int r (0xc2 ∷ 0x80 ∷ 0x80 ∷ []) (negsuc 127) (0xc1 ∷ 0x80 ∷ []) ∷
    reads_int r (0xc2 ∷ 0x00 ∷ 0x80 ∷ []) (pos 128) (0xc2 ∷ 0x00 ∷ 0x80 ∷ []) ∷
    reads_int r (0xc2 ∷ 0x80 ∷ 0x81 ∷ []) (negsuc 128) (0xc2 ∷ 0x80 ∷ 0x81 ∷ []) ∷
    reads_uint r (0xe1 ∷ 0x0c ∷ 0x05 ∷ []) 5 (0xc1 ∷ 0x05 ∷ []) ∷
    reads_uint r (0xf1 ∷ 0x00 ∷ 0x0c ∷ 0x05 ∷ []) 5 (0xc1 ∷ 0x05 ∷ []) ∷
    reads_uint r (0xcd ∷ 0x00 ∷ 0x01 ∷ 0x05 ∷ []) 5 (0xc1 ∷ 0x05 ∷ []) ∷
    sample r (nested_table 0) (0x1c ∷ 0x0c ∷ 0x08 ∷ 0x00 ∷ 0x00 ∷ 0x00 ∷ 0x00 ∷ 0x00 ∷ 0x00 ∷ 0x00 ∷ 0x2a ∷ 0x02 ∷ 0x00 ∷ 0x07 ∷ [])
    (reads (nested 1 (leaf 0 (uint 42) (leaf 0 (uint 7) end)) end) (0x14 ∷ 0x01 ∷ 0x2a ∷ 0x01 ∷ 0x07 ∷ [])) ∷
    sample r (only 1) (0xc9 ∷ replicate 9 0x00) (refuses 6 0) ∷
    sample r (only 1) (0xc3 ∷ 0x01 ∷ 0x02 ∷ []) (refuses 4 0) ∷
    []

-- Tables with one entry, which is single: tag 2 of message 0 is a uint; tag 1 of message 0 is a message 0.
unfoldable pub single_uint : List Entry
single_uint = record { number = 0; tag = 2; kind = 1; inner = 0; mark = 1 } ∷ []

unfoldable pub single_message : List Entry
single_message = record { number = 0; tag = 1; kind = 5; inner = 0; mark = 1 } ∷ []

-- Messages with single fields, each under revision 2, where the marks count, and under revision 1, where they have no effect: the same tag in a
-- longer form; a repeat with contents that are refused too; one after fields with another tag; one that ends past the message; a single field in
-- two nested messages, and twice in one; a single message; and one at the ninth level.
unfoldable pub single_samples : List Sample
single_samples =
    sample 2 single_uint (0x20 ∷ 0xe0 ∷ 0x02 ∷ []) (refuses 20 1) ∷
    sample 1 single_uint (0x20 ∷ 0xe0 ∷ 0x02 ∷ []) (reads (leaf 2 (uint 0) (leaf 2 (uint 0) end)) (0x20 ∷ 0x20 ∷ [])) ∷
    sample 2 single_uint (0x20 ∷ 0x29 ∷ replicate 9 0x00) (refuses 20 1) ∷
    sample 1 single_uint (0x20 ∷ 0x29 ∷ replicate 9 0x00) (refuses 6 1) ∷
    sample 2 single_uint (0x30 ∷ 0x20 ∷ 0x30 ∷ 0x20 ∷ []) (refuses 20 3) ∷
    sample 1 single_uint (0x30 ∷ 0x20 ∷ 0x30 ∷ 0x20 ∷ [])
    (reads (leaf 3 (raw []) (leaf 2 (uint 0) (leaf 3 (raw []) (leaf 2 (uint 0) end)))) (0x30 ∷ 0x20 ∷ 0x30 ∷ 0x20 ∷ [])) ∷
    sample 2 single_uint (0x20 ∷ 0x22 ∷ 0x00 ∷ []) (refuses 4 1) ∷
    sample 1 single_uint (0x20 ∷ 0x22 ∷ 0x00 ∷ []) (refuses 4 1) ∷
    sample 2 (nested_table 1) (0x11 ∷ 0x00 ∷ 0x11 ∷ 0x00 ∷ [])
    (reads (nested 1 (leaf 0 (uint 0) end) (nested 1 (leaf 0 (uint 0) end) end)) (0x11 ∷ 0x00 ∷ 0x11 ∷ 0x00 ∷ [])) ∷
    sample 1 (nested_table 1) (0x11 ∷ 0x00 ∷ 0x11 ∷ 0x00 ∷ [])
    (reads (nested 1 (leaf 0 (uint 0) end) (nested 1 (leaf 0 (uint 0) end) end)) (0x11 ∷ 0x00 ∷ 0x11 ∷ 0x00 ∷ [])) ∷
    sample 2 (nested_table 1) (0x12 ∷ 0x00 ∷ 0x00 ∷ []) (refuses 20 2) ∷
    sample 1 (nested_table 1) (0x12 ∷ 0x00 ∷ 0x00 ∷ []) (reads (nested 1 (leaf 0 (uint 0) (leaf 0 (uint 0) end)) end) (0x12 ∷ 0x00 ∷ 0x00 ∷ [])) ∷
    sample 2 single_message (0x10 ∷ 0x11 ∷ 0x01 ∷ []) (refuses 20 1) ∷
    sample 1 single_message (0x10 ∷ 0x11 ∷ 0x01 ∷ []) (refuses 4 2) ∷
    sample 2 single_message (0x18 ∷ 0x17 ∷ 0x16 ∷ 0x15 ∷ 0x14 ∷ 0x13 ∷ 0x12 ∷ 0x10 ∷ 0x10 ∷ []) (refuses 5 7) ∷
    sample 1 single_message (0x18 ∷ 0x17 ∷ 0x16 ∷ 0x15 ∷ 0x14 ∷ 0x13 ∷ 0x12 ∷ 0x10 ∷ 0x10 ∷ []) (refuses 5 7) ∷
    []
