-- The arguments of a call of the check, and the answers that its contract fixes.
use Rattle.std.specs.Prelude.{ℕ, Bool, ◌&&◌, List}
use Rattle.reading.specs.declared.Checked.{Checked}
use Rattle.message_calls.specs.Calls.{check_octets, short_octets}
use Rattle.wrong_programs.specs.Kinds.{Given, octets, word}

pub record CheckInput : Type 0 where
  pub table : List ℕ
  pub revision : ℕ
  pub number : ℕ
  pub message : List ℕ

unfoldable pub fits : CheckInput → Bool
fits x = octets x.table && word x.revision && word x.number && octets x.message

abbrev pub CheckCall : Type 0
CheckCall = Given fits

-- The contract of crudvim_check.
unfoldable pub check : CheckCall → Checked
check x = check_octets x.value.table x.value.revision x.value.number x.value.message

-- The same contract, of the answer whether the message is in its shortest form already.
unfoldable pub short : CheckCall → Bool
short x = short_octets x.value.table x.value.revision x.value.number x.value.message
