-- The arguments of a call that takes a table value, not the octets of a table, and the answers that the contracts fix.
use Rattle.std.specs.Prelude.{ℕ, Bool, ◌&&◌, List}
use Rattle.reading.specs.declared.Checked.{Checked}
use Rattle.table.specs.declared.Table.{Table}
use Rattle.message_calls.specs.Check as checks
use Rattle.message_calls.specs.Short as shorts
use Rattle.message_calls.specs.Lookup as lookups
use Rattle.message_calls.specs.declared.Found.{Found}
use Rattle.message_calls.specs.Shorten as shortens
use Rattle.message_calls.specs.declared.Shortened.{Shortened}
use Rattle.wrong_programs.specs.Kinds.{Given, octets, word}
use Rattle.wrong_programs.specs.Kinds as kinds

-- The arguments of all four functions. Each contract below is over some of them: a program that uses others is ruled out too.
pub record ValueInput : Type 0 where
  pub table : Table
  pub revision : ℕ
  pub number : ℕ
  pub message : List ℕ
  pub tag : ℕ
  pub k : ℕ
  pub out : List ℕ

unfoldable pub fits : ValueInput → Bool
fits x =
    kinds.table x.table
    && (word x.revision && word x.number && octets x.message && word x.tag && word x.k && octets x.out)

abbrev pub ValueCall : Type 0
ValueCall = Given fits

-- The contracts of check_loaded, lookup_loaded, lookup_last_loaded and shorten_loaded of message_calls.
unfoldable pub check : ValueCall → Checked
check x = checks.check x.value.table x.value.revision x.value.number x.value.message

-- The second answer of check_loaded: whether the message is short.
unfoldable pub short : ValueCall → Bool
short x = shorts.short x.value.table x.value.revision x.value.number x.value.message

unfoldable pub lookup : ValueCall → Found
lookup x = lookups.lookup x.value.table x.value.revision x.value.number x.value.message x.value.tag x.value.k

unfoldable pub lookup_last : ValueCall → Found
lookup_last x = lookups.lookup_last x.value.table x.value.revision x.value.number x.value.message x.value.tag

unfoldable pub shorten : ValueCall → Shortened
shorten x = shortens.answer x.value.table x.value.revision x.value.number x.value.message x.value.out
