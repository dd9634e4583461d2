-- The arguments of a call of a lookup, and the answer that its contract fixes.
use Rattle.std.specs.Prelude.{ℕ, Bool, ◌&&◌}
use Rattle.message_calls.specs.declared.Found.{Found}
use Rattle.message_calls.specs.Calls.{lookup_octets, lookup_last_octets}
use Rattle.wrong_programs.specs.Kinds.{Given, word}
use Rattle.wrong_programs.specs.Check as checks
use Rattle.wrong_programs.specs.Check.{CheckInput}

-- A table, a revision, a number and a message, as for the check, and the tag and the k to look up.
pub record LookupInput : Type 0 where
  pub within : CheckInput
  pub tag : ℕ
  pub k : ℕ

unfoldable pub fits : LookupInput → Bool
fits x = checks.fits x.within && word x.tag && word x.k

abbrev pub LookupCall : Type 0
LookupCall = Given fits

-- The contract of crudvim_lookup.
unfoldable pub lookup : LookupCall → Found
lookup x =
    let c = x.value.within in
    lookup_octets c.table c.revision c.number c.message x.value.tag x.value.k

-- The contract of crudvim_lookup_last, which does not use k.
unfoldable pub lookup_last : LookupCall → Found
lookup_last x =
    let c = x.value.within in
    lookup_last_octets c.table c.revision c.number c.message x.value.tag
