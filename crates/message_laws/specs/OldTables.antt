-- Document 02, item 14, first part: how a message reads under an old table, which lacks entries of the table that the message was made for. It is
-- stated of any function that says what a check answers by a table's octets, a revision, a message number and a message. The law `old_tables`
-- shows it of `check_octets`, which the contract of message_calls::check names.
use Rattle.std.specs.Prelude.{ℕ, ◌≡◌, true, List, ◌++◌, ◌⊎◌}
use Rattle.std.proofs.Math.Option.{Option, some}
use Rattle.reading.specs.Reading.{depth_limit}
use Rattle.reading.specs.declared.Checked.{Checked}
use Rattle.octets.specs.Number.{Octets}
use Rattle.table.specs.Entry.{Entry, entries}
use Rattle.table.specs.LeftOut.{LeftOut, has_entry}
use Rattle.table.specs.Load.{load}
use Rattle.table.specs.Schema.{schema}
use Rattle.table.specs.declared.Meaning.TheVariants.{Raw}
use Rattle.message.specs.Cut.{Cut, Good}
use Rattle.message_laws.specs.Paths.{Field, field_at}

-- The octets of two tables that the loader accepts. The old table is the new one with entries left out.
pub record Older (new old : List ℕ) : Type 0 where
  pub new_octets : Octets new
  pub old_octets : Octets old
  pub new_loads : (load new).refusal ≡ 0
  pub old_loads : (load old).refusal ≡ 0
  pub left_out : LeftOut (entries (load new).table) (entries (load old).table)

-- The same field with kind raw.
unfoldable pub as_raw : Field → Field
as_raw f = record { number = f.number; tag = f.tag; kind = Raw; part = f.part; contents = f.contents }

-- In the next three definitions, `new_at` and `old_at` give the field at a path under the new table and under the old one. `es` are the entries of the
-- old table.

-- The old table has the entry of the field at a path and of each of its parents, the fields at the prefixes of the path.
unfoldable pub Remain : List Entry → (List ℕ → Option Field) → List ℕ → Type 0
Remain es new_at path = (prefix back : List ℕ) (f : Field) → prefix ++ back ≡ path → new_at prefix ≡ some f → has_entry es f.number f.tag ≡ true

-- The field at a path, or one of its parents, is raw under the old table. It has the same octets under both tables.
pub record RawOnPath (new_at old_at : List ℕ → Option Field) (path : List ℕ) : Type 0 where
  pub prefix : List ℕ
  pub back : List ℕ
  pub on_the_path : prefix ++ back ≡ path
  pub field : Field
  pub in_new : new_at prefix ≡ some field
  pub in_old : old_at prefix ≡ some (as_raw field)

-- What becomes of the fields.
pub record FieldsUnderOld (es : List Entry) (new_at old_at : List ℕ → Option Field) : Type 0 where
  -- If the old table has a field's entry and the entries of its parents, the same field is at the same path: with the same tag, kind and
  -- contents, and so with the same value (law `field_in_tree`). Otherwise the field or one of its parents is raw.
  pub kept_or_raw : (path : List ℕ) (f : Field) → new_at path ≡ some f
      → (Remain es new_at path × (old_at path ≡ some f)) ⊎ ((Remain es new_at path → ⊥) × RawOnPath new_at old_at path)
  -- The old table adds no field. Each field under it is one of these, as it was or raw.
  pub no_more : (path : List ℕ) (f : Field) → old_at path ≡ some f → (g : Field) × (new_at path ≡ some g) × ((f ≡ g) ⊎ (f ≡ as_raw g))

-- How a message that is accepted under the new table is read under the old one.
pub record UnderOld (check : List ℕ → ℕ → ℕ → List ℕ → Checked) (new old : List ℕ) (revision n : ℕ) (s : List ℕ) : Type 0 where
  pub still_accepted : (check old revision n s).refusal ≡ 0
  -- Its cuts under both tables, and their fields. Demand 3 says that it has no other cuts.
  pub new_cut : Cut
  pub old_cut : Cut
  pub new_good : Good (schema revision (load new).table) depth_limit n s new_cut
  pub old_good : Good (schema revision (load old).table) depth_limit n s old_cut
  pub fields : FieldsUnderOld (entries (load old).table) (field_at (schema revision (load new).table) n new_cut)
      (field_at (schema revision (load old).table) n old_cut)

-- For all such tables, message numbers and messages, under a revision.
unfoldable pub OldTables : (List ℕ → ℕ → ℕ → List ℕ → Checked) → ℕ → Type 0
OldTables check revision =
    (new old : List ℕ) → Older new old → (n : ℕ) (s : List ℕ) → (check new revision n s).refusal ≡ 0 → UnderOld check new old revision n s
