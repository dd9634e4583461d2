-- Messages under a table with entries left out (document 02, item 14): specs/OldTables.antt states it.
use Prim.Native.Nat.{ℕ}
use mathlib.Core.Path.{◌≡◌, refl}
use mathlib.Core.Bool.{true}
use mathlib.Core.List.{List}
use Rattle.reading.specs.Reading.{depth_limit}
use Rattle.table.specs.Entry.{entries}
use Rattle.table.specs.LeftOut.{has_entry}
use Rattle.table.specs.Load.{load}
use Rattle.table.specs.Schema.{is_revision, schema}
use Rattle.table.proofs.LeftOut.{gone_meaning, kept_meaning}
use Rattle.table.proofs.LoadResults.{loaded_valid}
use Rattle.message_calls.specs.Calls.{check_octets}
use Rattle.message_laws.specs.OldTables.{Older, OldTables}
use Rattle.message_laws.proofs.Checks.{accepted_acceptable, acceptable_accepted}
use Rattle.message_laws.proofs.Trimmed.{Fewer, trimmed, trimmed_good}
use Rattle.message_laws.proofs.FieldsKept.{trimmed_fields}

-- The schema of an old table has fewer entries.
fewer_entries : (revision : ℕ) (new old : List ℕ) → Older new old
    → Fewer (schema revision (load new).table) (schema revision (load old).table) (has_entry (entries (load old).table))
unfolding schema
fewer_entries revision new old older =
    let fs = entries (load old).table in
    let valid = loaded_valid new (load new) older.new_octets refl older.new_loads in
    record {
      same = λ n t e. kept_meaning revision fs n t (load new).table valid older.left_out e;
      gone = λ n t e. gone_meaning revision fs n t e;
    }

-- Under either revision.
pub old_tables : (revision : ℕ) → is_revision revision ≡ true → OldTables check_octets revision
unfolding OldTables
old_tables revision known new old older n s e =
    let sc = schema revision (load new).table in
    let fewer = schema revision (load old).table in
    let es = entries (load old).table in
    let less = fewer_entries revision new old older in
    let a = accepted_acceptable new older.new_loads revision n s e in
    let cut = a.divided.0 in
    let good = trimmed_good sc fewer (has_entry es) less depth_limit n s cut a.divided.1 in
    record {
      still_accepted =
          acceptable_accepted old older.old_loads revision n s older.old_octets known (
          record { short_enough = a.short_enough; numbered = a.numbered; divided = (trimmed sc (has_entry es) n cut, good) }
          );
      new_cut = cut;
      old_cut = trimmed sc (has_entry es) n cut;
      new_good = a.divided.1;
      old_good = good;
      fields = trimmed_fields es sc fewer less cut n;
    }
