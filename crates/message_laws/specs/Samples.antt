-- Samples of messages under an old table and of swapped fields.
use Rattle.std.specs.Prelude.{ℕ, ◌≡◌, List, [], ◌∷◌, ◌++◌}
use Rattle.std.proofs.Math.Option.{Option, none, some}
use Rattle.reading.specs.Reading.{Reading, accepted, refused}
use Rattle.table.specs.Entry.{entries}
use Rattle.table.specs.LeftOut.{LeftOut}
use Rattle.table.specs.Load.{load}
use Rattle.table.specs.Schema.{Schema, schema}
use Rattle.table.specs.declared.Meaning.{Meaning}
use Rattle.table.specs.declared.Meaning.TheVariants.{Raw, Uint, Int, Text, Message}
use Rattle.message.specs.Cut.{Cut, end, leaf, nested, joined}
use Rattle.message.specs.Tree.{uint, text}
use Rattle.message.specs.Items as items
use Rattle.message.specs.Reading.{reading}
use Rattle.message_calls.specs.Calls.{check_octets}
use Rattle.message_calls.specs.Samples.{line}
use Rattle.message_laws.specs.Paths.{Field, field_at}
use Rattle.message_laws.specs.OldTables.{Older, Remain}
use Rattle.message_laws.specs.Swapped.{SwappedIn}
use Rattle.message_laws.specs.Swaps.{values_of}

-- ---- an old table

-- In message 0, tag 1 is a uint, tag 2 is an int, and tags 3 and 4 are messages with number 1. In message 1, tag 0 is a uint and tag 1 is text.
unfoldable pub new_table : List ℕ
new_table = line 0 0 1 1 0 ++ line 0 0 2 2 0 ++ line 0 0 3 5 1 ++ line 0 0 4 5 1 ++ line 1 0 0 1 0 ++ line 1 0 1 4 0

-- The old table has the entries for tags 1 and 3 in message 0 and for tag 0 in message 1.
unfoldable pub old_table : List ℕ
old_table = line 0 0 1 1 0 ++ line 0 0 3 5 1 ++ line 1 0 0 1 0

-- A message with number 0. Its fields have the tags 1, 2, 3, 4, 5 and again 1. In the field with tag 3 are fields with the tags 0 and 1, in the one
-- with tag 4 is a field with the tag 0.
unfoldable pub message : List ℕ
message =
    0x11 ∷ 0x2a ∷ 0x21 ∷ 0x85 ∷ 0x34 ∷ 0x01 ∷ 0x07 ∷ 0x11 ∷ 0x41 ∷ 0x42 ∷ 0x01 ∷ 0x07 ∷ 0x51 ∷ 0x99 ∷ 0x11 ∷ 0x2b ∷ []

unfoldable pub field_in : Schema → Reading Cut → List ℕ → Option Field
field_in sc (accepted cut) path = field_at sc 0 cut path
field_in sc (refused reason place) path = none

-- The field at a path of this message, as it is read under a table and revision 1.
unfoldable pub read_at : List ℕ → List ℕ → Option Field
read_at table path = let sc = schema 1 (load table).table in field_in sc (reading sc 0 message) path

-- A field: the number of its message, its tag and kind, its control part of one octet, and its contents.
unfoldable pub field : ℕ → ℕ → Meaning → ℕ → List ℕ → Option Field
field number tag kind part contents = some (record { number = number; tag = tag; kind = kind; part = part ∷ []; contents = contents })

-- A sample: a path, and the fields at that path under the new table and under the old one.
pub record Sample : Type 0 where
  pub path : List ℕ
  pub new : Option Field
  pub old : Option Field

unfoldable pub sample : List ℕ → Option Field → Option Field → Sample
sample path new old = record { path = path; new = new; old = old }

unfoldable pub Hold : List Sample → Type 0
Hold [] = Unit {0}
Hold (x ∷ xs) = (read_at new_table x.path ≡ x.new) × (read_at old_table x.path ≡ x.old) × Hold xs

unfoldable pub fields : List Sample
fields =
    -- The uint stays, and the int becomes raw.
    sample (0 ∷ []) (field 0 1 Uint 0x11 (0x2a ∷ [])) (field 0 1 Uint 0x11 (0x2a ∷ [])) ∷
    sample (1 ∷ []) (field 0 2 Int 0x21 (0x85 ∷ [])) (field 0 2 Raw 0x21 (0x85 ∷ [])) ∷
    -- The first message stays, and so does the uint in it. The text in it becomes raw.
    sample (2 ∷ []) (field 0 3 (Message 1) 0x34 (0x01 ∷ 0x07 ∷ 0x11 ∷ 0x41 ∷ [])) (field 0 3 (Message 1) 0x34 (0x01 ∷ 0x07 ∷ 0x11 ∷ 0x41 ∷ [])) ∷
    sample (2 ∷ 0 ∷ []) (field 1 0 Uint 0x01 (0x07 ∷ [])) (field 1 0 Uint 0x01 (0x07 ∷ [])) ∷
    sample (2 ∷ 1 ∷ []) (field 1 1 Text 0x11 (0x41 ∷ [])) (field 1 1 Raw 0x11 (0x41 ∷ [])) ∷
    -- The second message becomes raw. The uint in it has the same entry as the one before, but is now part of the contents of a raw field.
    sample (3 ∷ []) (field 0 4 (Message 1) 0x42 (0x01 ∷ 0x07 ∷ [])) (field 0 4 Raw 0x42 (0x01 ∷ 0x07 ∷ [])) ∷
    sample (3 ∷ 0 ∷ []) (field 1 0 Uint 0x01 (0x07 ∷ [])) none ∷
    -- A tag that neither table has is raw under both. No path leads into it.
    sample (4 ∷ []) (field 0 5 Raw 0x51 (0x99 ∷ [])) (field 0 5 Raw 0x51 (0x99 ∷ [])) ∷
    sample (4 ∷ 0 ∷ []) none none ∷
    -- A second field with tag 1 keeps its own value. It is the last.
    sample (5 ∷ []) (field 0 1 Uint 0x11 (0x2b ∷ [])) (field 0 1 Uint 0x11 (0x2b ∷ [])) ∷
    sample (6 ∷ []) none none ∷
    []

-- A message with number 0: a field with tag 2 and nine octets, too many for an int.
unfoldable pub long_int : List ℕ
long_int = 0x29 ∷ 0x00 ∷ 0x00 ∷ 0x00 ∷ 0x00 ∷ 0x00 ∷ 0x00 ∷ 0x00 ∷ 0x00 ∷ 0x01 ∷ []

-- The tables are a new and an old one, the check accepts the message under both, and the fields are these.
pub record OldTableSample : Type 0 where
  pub tables : Older new_table old_table
  pub new_check : check_octets new_table 1 0 message ≡ record { refusal = 0; place = 0; fields = 9; depth = 2 }
  pub old_check : check_octets old_table 1 0 message ≡ record { refusal = 0; place = 0; fields = 8; depth = 2 }
  pub fields_hold : Hold fields
  -- Leaving out does not change the order.
  pub order_kept : LeftOut {A = ℕ} (1 ∷ 2 ∷ []) (2 ∷ 1 ∷ []) → ⊥
  -- The old table has the entries of the uint in the first message and of its parent. For the uint in the second message, that of the parent is
  -- missing.
  pub first_remains : Remain (entries (load old_table).table) (read_at new_table) (2 ∷ 0 ∷ [])
  pub second_does_not : Remain (entries (load old_table).table) (read_at new_table) (3 ∷ 0 ∷ []) → ⊥
  -- A message that only the old table accepts: there the int is raw.
  pub new_refuses : check_octets new_table 1 0 long_int ≡ record { refusal = 6; place = 0; fields = 0; depth = 0 }
  pub old_accepts : check_octets old_table 1 0 long_int ≡ record { refusal = 0; place = 0; fields = 1; depth = 1 }

-- ---- swapped fields

-- The fields of a message with number 1. The first two are swapped.
unfoldable pub inner : Cut
inner = leaf 0 (0x01 ∷ []) (0x07 ∷ []) (leaf 1 (0x11 ∷ []) (0x41 ∷ []) (leaf 0 (0x01 ∷ []) (0x08 ∷ []) end))

unfoldable pub inner_swapped : Cut
inner_swapped = leaf 1 (0x11 ∷ []) (0x41 ∷ []) (leaf 0 (0x01 ∷ []) (0x07 ∷ []) (leaf 0 (0x01 ∷ []) (0x08 ∷ []) end))

-- The fields of a message with number 0: a uint with tag 1, and a message with tag 3 that has these fields.
unfoldable pub around : Cut → Cut
around cut = leaf 1 (0x11 ∷ []) (0x2a ∷ []) (nested 3 (0x36 ∷ []) cut end)

-- The octets before and after the swap, their cuts, the check's answers, and the values in the message in which the fields are swapped.
pub record SwapSample : Type 0 where
  pub octets : joined (around inner) ≡ 0x11 ∷ 0x2a ∷ 0x36 ∷ 0x01 ∷ 0x07 ∷ 0x11 ∷ 0x41 ∷ 0x01 ∷ 0x08 ∷ []
  pub octets_swapped : joined (around inner_swapped) ≡ 0x11 ∷ 0x2a ∷ 0x36 ∷ 0x11 ∷ 0x41 ∷ 0x01 ∷ 0x07 ∷ 0x01 ∷ 0x08 ∷ []
  pub cut : reading (schema 1 (load new_table).table) 0 (joined (around inner)) ≡ accepted (around inner)
  pub cut_swapped : reading (schema 1 (load new_table).table) 0 (joined (around inner_swapped)) ≡ accepted (around inner_swapped)
  pub swapped : SwappedIn (around inner) (around inner_swapped) inner inner_swapped
  pub check : check_octets new_table 1 0 (joined (around inner)) ≡ record { refusal = 0; place = 0; fields = 5; depth = 2 }
  pub check_swapped : check_octets new_table 1 0 (joined (around inner_swapped)) ≡ record { refusal = 0; place = 0; fields = 5; depth = 2 }
  pub tag_0 : values_of (schema 1 (load new_table).table) 1 inner 0 ≡ items.leaf 0 (uint 7) ∷ items.leaf 0 (uint 8) ∷ []
  pub tag_0_swapped : values_of (schema 1 (load new_table).table) 1 inner_swapped 0 ≡ items.leaf 0 (uint 7) ∷ items.leaf 0 (uint 8) ∷ []
  pub tag_1 : values_of (schema 1 (load new_table).table) 1 inner 1 ≡ items.leaf 1 (text (0x41 ∷ [])) ∷ []
  pub tag_1_swapped : values_of (schema 1 (load new_table).table) 1 inner_swapped 1 ≡ items.leaf 1 (text (0x41 ∷ [])) ∷ []
