-- The arguments of a call of the shortener, and the answer and the buffer that its contract fixes.
use Rattle.std.specs.Prelude.{ℕ, Bool, ◌&&◌, List}
use Rattle.message_calls.specs.declared.Shortened.{Shortened}
use Rattle.message_calls.specs.Calls.{shorten_octets, shorten_buffer}
use Rattle.wrong_programs.specs.Kinds.{Given, octets}
use Rattle.wrong_programs.specs.Check as checks
use Rattle.wrong_programs.specs.Check.{CheckInput}

-- A table, a revision, a number and a message, as for the check, and the second buffer before the call.
pub record ShortenInput : Type 0 where
  pub within : CheckInput
  pub out : List ℕ

unfoldable pub fits : ShortenInput → Bool
fits x = checks.fits x.within && octets x.out

abbrev pub ShortenCall : Type 0
ShortenCall = Given fits

-- The contract of crudvim_shorten: its answer, and the second buffer afterwards.
unfoldable pub shorten : ShortenCall → Shortened × List ℕ
shorten x =
    let c = x.value.within in
    let out = x.value.out in
    (shorten_octets c.table c.revision c.number c.message out, shorten_buffer c.table c.revision c.number c.message out)
