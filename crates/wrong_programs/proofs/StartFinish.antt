-- Wrong programs in the place of start and finish, and of writer_state::sound.
use Prim.Native.Nat.{ℕ}
use mathlib.Core.Path.{◌≡◌, refl}
use mathlib.Core.Bool.{true}
use mathlib.Core.List.{List, [], ◌∷◌}
use lib.ListN.{get_or}
use lib.Dec.{T, ltb}
use borrow.Author.Tests.{eqb-false}
use Rattle.table.specs.declared.Table.{Table}
use Rattle.writer_state.specs.Calls.{begun}
use Rattle.writer_state.specs.declared.State.{State}
use Rattle.writer_state.specs.declared.Written.{Written}
use Rattle.writer_state.specs.Finished.{Finished}
use Rattle.wrong_programs.specs.Kinds.{RuledOut, Rejects, Accepts, SeesOnly, always, due, refusal_of}
use Rattle.wrong_programs.specs.Writer.{StartInput, StartCall, StateCall, start, finish, sound_state}
use Rattle.wrong_programs.proofs.RulingOut.{Sample, given, rejects, accepts, sees_only}
use Rattle.wrong_programs.proofs.Computing.{writer}
use Rattle.wrong_programs.proofs.WriterStates.{table, unused, state, state_at, accepted, refused}

-- ---- start

abbrev asked_under : ℕ → ℕ → List ℕ → StartInput
asked_under revision number buffer = record { table = table 1; revision = revision; number = number; buffer = buffer }

abbrev asked : ℕ → List ℕ → StartInput
asked number buffer = asked_under 2 number buffer

number_0 : Sample start
unfolding writer
number_0 = given (asked 0 unused) (accepted (state_at 6)) tt refl

number_1 : Sample start
unfolding writer
number_1 = given (asked 1 unused) (accepted (begun 6 2 1)) tt refl

number_16 : Sample start
unfolding writer
number_16 = given (asked 16 unused) (refused 2 (begun 0 0 0)) tt refl

under_1 : Sample start
unfolding writer
under_1 = given (asked_under 1 0 unused) (accepted (begun 6 1 0)) tt refl

no_buffer : Sample start
unfolding writer
no_buffer = given (asked 0 []) (accepted (begun 0 2 0)) tt refl

abbrev start_refusal : Written → ℕ
start_refusal r = r.refusal

abbrev start_accepts_it : StartCall → Type 0
start_accepts_it = due start start_refusal 0

-- It rejects every call.
pub start_rejects_all : RuledOut (Rejects start_refusal always) start
unfolding number_0
start_rejects_all = rejects start_refusal always number_0 tt refl

-- It rejects every number but 0.
abbrev not_number_0 : StartCall → Type 0
not_number_0 x = T (ltb 0 x.value.number)

pub start_rejects_numbers : RuledOut (Rejects start_refusal not_number_0) start
unfolding number_1
start_rejects_numbers = rejects start_refusal not_number_0 number_1 tt refl

-- It rejects every call under revision 1.
abbrev calls_under_1 : StartCall → Type 0
calls_under_1 x = x.value.revision ≡ 1

pub start_rejects_revision_1 : RuledOut (Rejects start_refusal calls_under_1) start
unfolding under_1
start_rejects_revision_1 = rejects start_refusal calls_under_1 under_1 refl refl

-- It accepts every call.
pub start_accepts_all : RuledOut (Accepts start_refusal always) start
unfolding number_16
start_accepts_all = accepts start_refusal always number_16 tt (eqb-false 2 0 refl)

-- It gives each outermost message the same number.
abbrev all_but_the_number : StartCall → Table × ℕ × List ℕ
all_but_the_number x = (x.value.table, x.value.revision, x.value.buffer)

abbrev number_noted : Written → ℕ
number_noted r = get_or r.state.numbers 0 0

pub start_number_ignored : RuledOut (SeesOnly all_but_the_number number_noted start_accepts_it) start
unfolding number_0 number_1
start_number_ignored = sees_only all_but_the_number number_noted start_accepts_it number_0 number_1 refl refl refl (eqb-false 0 1 refl)

-- It keeps the same revision for each message.
abbrev all_but_the_revision : StartCall → Table × ℕ × List ℕ
all_but_the_revision x = (x.value.table, x.value.number, x.value.buffer)

pub start_revision_ignored : RuledOut (SeesOnly all_but_the_revision (λ (r : Written). r.state.revision) start_accepts_it) start
unfolding number_0 under_1
start_revision_ignored =
    sees_only all_but_the_revision (λ (r : Written). r.state.revision) start_accepts_it number_0 under_1 refl refl refl
    (eqb-false 2 1 refl)

-- It starts at the same place in each buffer.
abbrev all_but_the_buffer : StartCall → Table × ℕ × ℕ
all_but_the_buffer x = (x.value.table, x.value.revision, x.value.number)

pub start_buffer_ignored : RuledOut (SeesOnly all_but_the_buffer (λ (r : Written). r.state.start) start_accepts_it) start
unfolding number_0 no_buffer
start_buffer_ignored =
    sees_only all_but_the_buffer (λ (r : Written). r.state.start) start_accepts_it number_0 no_buffer refl refl refl
    (eqb-false 6 0 refl)

-- ---- finish

abbrev finished : ℕ → Finished
finished at = record { refusal = 0; place = 0; start = at; state = state_at at }

-- Nothing is stored; two octets are stored; a field is open.
nothing : Sample finish
unfolding writer
nothing = given (state_at 6) (finished 6) tt refl

two_octets : Sample finish
unfolding writer
two_octets = given (state_at 4) (finished 4) tt refl

abbrev open_field : State
open_field = state 6 1 (6 ∷ []) (1 ∷ [])

still_open_lem : Sample finish
unfolding writer
still_open_lem = given open_field (record { refusal = 12; place = 0; start = 0; state = open_field }) tt refl

abbrev refusal : Finished → ℕ
refusal r = r.refusal

abbrev accepts_it : StateCall → Type 0
accepts_it = due finish refusal 0

-- It rejects every call.
pub finish_rejects_all : RuledOut (Rejects refusal always) finish
unfolding nothing
finish_rejects_all = rejects refusal always nothing tt refl

-- It rejects every message that has octets.
abbrev has_octets : StateCall → Type 0
has_octets x = T (ltb x.value.start x.value.length)

pub finish_rejects_written : RuledOut (Rejects refusal has_octets) finish
unfolding two_octets
finish_rejects_written = rejects refusal has_octets two_octets tt refl

-- It accepts every call.
pub finish_accepts_all : RuledOut (Accepts refusal always) finish
unfolding still_open_lem
finish_accepts_all = accepts refusal always still_open_lem tt (eqb-false 12 0 refl)

-- The start of the message, or the state that it returns, is the same each time, or is made from the length of the buffer.
abbrev buffer_length : StateCall → ℕ
buffer_length x = x.value.length

pub finish_start_by_length : RuledOut (SeesOnly buffer_length (λ (r : Finished). r.start) accepts_it) finish
unfolding nothing two_octets
finish_start_by_length = sees_only buffer_length (λ (r : Finished). r.start) accepts_it nothing two_octets refl refl refl (eqb-false 6 4 refl)

pub finish_state_by_length : RuledOut (SeesOnly buffer_length (λ (r : Finished). r.state.start) accepts_it) finish
unfolding nothing two_octets
finish_state_by_length = sees_only buffer_length (λ (r : Finished). r.state.start) accepts_it nothing two_octets refl refl refl (eqb-false 6 4 refl)

-- ---- sound

fresh : Sample sound_state
unfolding writer
fresh = given (state_at 6) true tt refl

field_open : Sample sound_state
unfolding writer
field_open = given open_field true tt refl

-- It rejects every state, or every one with an open field.
pub sound_rejects_all : RuledOut (Rejects refusal_of always) sound_state
unfolding fresh
sound_rejects_all = rejects refusal_of always fresh tt refl

abbrev has_open_fields : StateCall → Type 0
has_open_fields x = T (ltb 0 x.value.opened)

pub sound_rejects_open_fields : RuledOut (Rejects refusal_of has_open_fields) sound_state
unfolding field_open
sound_rejects_open_fields = rejects refusal_of has_open_fields field_open tt refl
