-- The arguments of the calls of the backward writer, and the answers and buffers that their contracts fix.
use Rattle.std.specs.Prelude.{ℕ, Bool, ◌&&◌, List, [], ltb, ℤ, pos, negsuc, length}
use Rattle.table.specs.declared.Table.{Table}
use Rattle.writer_state.specs.Sound.{sound}
use Rattle.writer_state.specs.Call as calls
use Rattle.writer_state.specs.Call.{Call, put_uint, put_int, put_octets}
use Rattle.writer_state.specs.Answer as writes
use Rattle.writer_state.specs.Calls.{started, finished}
use Rattle.writer_state.specs.declared.State.{State}
use Rattle.writer_state.specs.declared.Written.{Written}
use Rattle.writer_state.specs.Finished.{Finished}
use Rattle.wrong_programs.specs.Kinds as kinds
use Rattle.wrong_programs.specs.Kinds.{Given, word, array}

unfoldable pub state_fits : State → Bool
state_fits s =
    word s.length && word s.start && word s.opened && word s.revision && array 8 0x10000000000000000 s.numbers
    && array 8 0x10000000000000000 s.masks && array 7 0x10000000000000000 s.marks && array 7 0x10000 s.tags

-- ---- start

pub record StartInput : Type 0 where
  pub table : Table
  pub revision : ℕ
  pub number : ℕ
  pub buffer : List ℕ

unfoldable pub start_fits : StartInput → Bool
start_fits x = kinds.table x.table && word x.revision && word x.number && kinds.octets x.buffer

abbrev pub StartCall : Type 0
StartCall = Given start_fits

unfoldable pub start : StartCall → Written
start x = started x.value.table x.value.revision x.value.number (length x.value.buffer)

-- ---- put_uint, put_int and put_octets

pub data Put : Type 0 where
  uint : Put
  int : Put
  octets : Put

unfoldable pub Value : Put → Type 0
Value uint = ℕ
Value int = ℤ
Value octets = List ℕ

-- An int has 64 bits.
unfoldable pub int_fits : ℤ → Bool
int_fits (pos n) = ltb n 0x8000000000000000
int_fits (negsuc n) = ltb n 0x8000000000000000

unfoldable pub value_fits : (p : Put) → Value p → Bool
unfolding Value
value_fits uint v = word v
value_fits int v = int_fits v
value_fits octets v = kinds.octets v

pub record PutInput (p : Put) : Type 0 where
  pub table : Table
  pub state : State
  pub tag : ℕ
  pub value : Value p
  pub buffer : List ℕ

unfoldable pub put_fits : (p : Put) → PutInput p → Bool
put_fits p x =
    kinds.table x.table && state_fits x.state && word x.tag && value_fits p x.value && kinds.octets x.buffer

abbrev pub PutCall : Put → Type 0
PutCall p = Given (put_fits p)

-- The answer of a call, and the buffer after it.
pub record Outcome : Type 0 where
  pub answer : Written
  pub buffer : List ℕ

unfoldable pub call_of : (p : Put) → ℕ → Value p → Call
unfolding Value
call_of uint tag v = put_uint tag v
call_of int tag v = put_int tag v
call_of octets tag v = put_octets tag v

unfoldable pub put : (p : Put) → PutCall p → Outcome
put p x =
    let c = call_of p x.value.tag x.value.value in
    record {
      answer = writes.answer x.value.table x.value.state x.value.buffer c;
      buffer = writes.buffer x.value.table x.value.state x.value.buffer c;
    }

-- ---- open_field

pub record OpenInput : Type 0 where
  pub table : Table
  pub state : State
  pub tag : ℕ

unfoldable pub open_fits : OpenInput → Bool
open_fits x = kinds.table x.table && state_fits x.state && word x.tag

abbrev pub OpenCall : Type 0
OpenCall = Given open_fits

unfoldable pub open_field : OpenCall → Written
open_field x = writes.answer x.value.table x.value.state [] (calls.open_field x.value.tag)

-- ---- close_field

pub record CloseInput : Type 0 where
  pub table : Table
  pub state : State
  pub buffer : List ℕ

unfoldable pub close_fits : CloseInput → Bool
close_fits x = kinds.table x.table && state_fits x.state && kinds.octets x.buffer

abbrev pub CloseCall : Type 0
CloseCall = Given close_fits

unfoldable pub close_field : CloseCall → Outcome
close_field x =
    record {
      answer = writes.answer x.value.table x.value.state x.value.buffer calls.close_field;
      buffer = writes.buffer x.value.table x.value.state x.value.buffer calls.close_field;
    }

-- ---- finish and sound, which are given the state alone

abbrev pub StateCall : Type 0
StateCall = Given state_fits

unfoldable pub finish : StateCall → Finished
finish x = finished x.value

unfoldable pub sound_state : StateCall → Bool
sound_state x = sound x.value
