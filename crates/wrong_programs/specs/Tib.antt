-- The arguments of the calls of the readers of TibMsg and TibrvMsg, and the answers that their contracts fix.
use Rattle.std.specs.Prelude.{ℕ, Bool, ◌&&◌, List}
use Rattle.reading.specs.declared.Checked.{Checked}
use Rattle.tib_field.specs.declared.FieldAnswer.{FieldAnswer}
use Rattle.tib_msg.specs.CheckAndField as msg
use Rattle.tib_rv.specs.CheckAndField as rv
use Rattle.wrong_programs.specs.Kinds.{Given, octets, word}

pub data Format : Type 0 where
  tibmsg : Format
  tibrv : Format

-- The octets of a message.
abbrev pub MessageCall : Type 0
MessageCall = Given octets

-- The contracts of crudvim_tibmsg_check and crudvim_tibrv_check.
unfoldable pub check : Format → MessageCall → Checked
check tibmsg x = msg.check x.value
check tibrv x = rv.check x.value

pub record FieldInput : Type 0 where
  pub message : List ℕ
  pub k : ℕ

unfoldable pub field_fits : FieldInput → Bool
field_fits x = octets x.message && word x.k

abbrev pub FieldCall : Type 0
FieldCall = Given field_fits

-- The contracts of tib_msg::field and tib_rv::field, whose answers crudvim_tibmsg_field and crudvim_tibrv_field spread over numbers.
unfoldable pub field : Format → FieldCall → FieldAnswer
field tibmsg x = msg.field x.value.message x.value.k
field tibrv x = rv.field x.value.message x.value.k
