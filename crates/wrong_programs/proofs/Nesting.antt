-- Wrong programs in the place of open_field and close_field.
use Prim.Native.Nat.{ℕ}
use mathlib.Core.Path.{refl}
use mathlib.Core.List.{List, [], ◌∷◌}
use lib.ListN.{get_or, take}
use lib.Dec.{T, ltb}
use borrow.Author.Tests.{eqb-false}
use Rattle.table.specs.declared.Table.{Table}
use Rattle.writer_state.specs.declared.State.{State}
use Rattle.writer_state.specs.declared.Written.{Written}
use Rattle.wrong_programs.specs.Kinds.{RuledOut, Rejects, Accepts, Invents, SeesOnly, always, due}
use Rattle.wrong_programs.specs.Writer.{OpenInput, OpenCall, CloseInput, CloseCall, Outcome, open_field, close_field}
use Rattle.wrong_programs.proofs.RulingOut.{Sample, given, rejects, accepts, invents, sees_only, differ_at}
use Rattle.wrong_programs.proofs.Computing.{writer}
use Rattle.wrong_programs.proofs.WriterStates.{table, unused, ending, state, state_at, accepted, refused, outcome}

-- ---- open_field

abbrev opened : State → ℕ → OpenInput
opened s tag = record { table = table 5; state = s; tag = tag }

-- The state after a field of a tag is opened, and after one of the tag 1 is opened in one of the tag 1.
abbrev in_field : ℕ → State
in_field tag = state 6 1 (6 ∷ []) (tag ∷ [])

abbrev in_two : State
in_two = state 6 2 (6 ∷ 6 ∷ []) (1 ∷ 1 ∷ [])

open_1 : Sample open_field
unfolding writer
open_1 = given (opened (state_at 6) 1) (accepted (in_field 1)) tt refl

open_2 : Sample open_field
unfolding writer
open_2 = given (opened (state_at 6) 2) (accepted (in_field 2)) tt refl

open_inside : Sample open_field
unfolding writer
open_inside = given (opened (in_field 1) 1) (accepted in_two) tt refl

-- The tag 3 is not in the table.
open_3 : Sample open_field
unfolding writer
open_3 = given (opened (state_at 6) 3) (refused 8 (state_at 6)) tt refl

abbrev open_refusal : Written → ℕ
open_refusal r = r.refusal

-- It rejects every call.
pub open_rejects_all : RuledOut (Rejects open_refusal always) open_field
unfolding open_1
open_rejects_all = rejects open_refusal always open_1 tt refl

-- It rejects every field in an open one.
abbrev is_inside : OpenCall → Type 0
is_inside x = T (ltb 0 x.value.state.opened)

pub open_rejects_inside : RuledOut (Rejects open_refusal is_inside) open_field
unfolding open_inside
open_rejects_inside = rejects open_refusal is_inside open_inside tt refl

-- It accepts every call.
pub open_accepts_all : RuledOut (Accepts open_refusal always) open_field
unfolding open_3
open_accepts_all = accepts open_refusal always open_3 tt (eqb-false 8 0 refl)

-- It returns the state unchanged: no more fields are open than before.
abbrev opened_before_open : OpenCall → ℕ
opened_before_open x = x.value.state.opened

pub open_state_unchanged : RuledOut (Invents (λ (r : Written). r.state.opened) opened_before_open always) open_field
unfolding open_1
open_state_unchanged = invents (λ (r : Written). r.state.opened) opened_before_open always open_1 tt (eqb-false 1 0 refl)

-- It notes the same tag for each field.
abbrev all_but_the_tag : OpenCall → Table × State
all_but_the_tag x = (x.value.table, x.value.state)

abbrev tag_noted : Written → ℕ
tag_noted r = get_or r.state.tags 0 0

pub open_tag_ignored : RuledOut (SeesOnly all_but_the_tag tag_noted (due open_field open_refusal 0)) open_field
unfolding open_1 open_2
open_tag_ignored = sees_only all_but_the_tag tag_noted (due open_field open_refusal 0) open_1 open_2 refl refl refl (eqb-false 1 2 refl)

-- ---- close_field

abbrev closed : State → List ℕ → CloseInput
closed s buffer = record { table = table 5; state = s; buffer = buffer }

-- Fields of the tags 1 and 2 with nothing in them.
close_1 : Sample close_field
unfolding writer
close_1 = given (closed (in_field 1) unused) (outcome (accepted (state 5 0 (6 ∷ []) (1 ∷ []))) (ending (0x10 ∷ []))) tt refl

close_2 : Sample close_field
unfolding writer
close_2 = given (closed (in_field 2) unused) (outcome (accepted (state 5 0 (6 ∷ []) (2 ∷ []))) (ending (0x20 ∷ []))) tt refl

-- A field with nothing in it in another of the same tag, then that one, with the state and the buffer that the first close leaves.
close_inner : Sample close_field
unfolding writer
close_inner = given (closed in_two unused) (outcome (accepted (state 5 1 (6 ∷ 6 ∷ []) (1 ∷ 1 ∷ []))) (ending (0x10 ∷ []))) tt refl

close_outer : Sample close_field
unfolding writer close_inner
close_outer =
    given (closed close_inner.answer.answer.state close_inner.answer.buffer)
    (outcome (accepted (state 4 0 (6 ∷ 6 ∷ []) (1 ∷ 1 ∷ []))) (ending (0x11 ∷ 0x10 ∷ []))) tt refl

none_open : Sample close_field
unfolding writer
none_open = given (closed (state_at 6) unused) (outcome (refused 11 (state_at 6)) unused) tt refl

abbrev refusal : Outcome → ℕ
refusal r = r.answer.refusal

abbrev buffer_after : Outcome → List ℕ
buffer_after r = r.buffer

abbrev buffer_before : CloseCall → List ℕ
buffer_before x = x.value.buffer

-- The contract accepts the call.
abbrev accepts_it : CloseCall → Type 0
accepts_it = due close_field refusal 0

-- Octets are stored already.
abbrev has_octets : CloseCall → Type 0
has_octets x = T (ltb x.value.state.start x.value.state.length)

-- It rejects every call.
pub close_rejects_all : RuledOut (Rejects refusal always) close_field
unfolding close_1
close_rejects_all = rejects refusal always close_1 tt refl

-- It rejects every close where octets are stored already.
pub close_rejects_later : RuledOut (Rejects refusal has_octets) close_field
unfolding close_outer
close_rejects_later = rejects refusal has_octets close_outer tt refl

-- It accepts every call.
pub close_accepts_all : RuledOut (Accepts refusal always) close_field
unfolding none_open
close_accepts_all = accepts refusal always none_open tt (eqb-false 11 0 refl)

-- It stores nothing, or nothing where octets are stored already.
pub close_stores_nothing : RuledOut (Invents buffer_after buffer_before always) close_field
unfolding close_1
close_stores_nothing = invents buffer_after buffer_before always close_1 tt (differ_at 5 refl)

pub close_stores_only_the_first : RuledOut (Invents buffer_after buffer_before has_octets) close_field
unfolding close_outer
close_stores_only_the_first = invents buffer_after buffer_before has_octets close_outer tt (differ_at 4 refl)

-- The closed field stays open.
abbrev opened_before_close : CloseCall → ℕ
opened_before_close x = x.value.state.opened

pub close_stays_open : RuledOut (Invents (λ (r : Outcome). r.answer.state.opened) opened_before_close always) close_field
unfolding close_1
close_stays_open = invents (λ (r : Outcome). r.answer.state.opened) opened_before_close always close_1 tt (eqb-false 0 1 refl)

-- It stores the same for each tag.
abbrev all_but_the_tags : CloseCall → Table × List ℕ × List ℕ × List ℕ × List ℕ
all_but_the_tags x =
    let s = x.value.state in
    (x.value.table, s.length ∷ s.start ∷ s.opened ∷ s.revision ∷ s.numbers, s.masks, s.marks, x.value.buffer)

pub close_tag_ignored : RuledOut (SeesOnly all_but_the_tags buffer_after accepts_it) close_field
unfolding close_1 close_2
close_tag_ignored = sees_only all_but_the_tags buffer_after accepts_it close_1 close_2 refl refl refl (differ_at 5 refl)

-- It gives each field the same length, or one made from the tag, and ignores what was stored since the open.
abbrev all_but_the_octets : CloseCall → Table × List ℕ × List ℕ × List ℕ × List ℕ
all_but_the_octets x =
    let s = x.value.state in
    (x.value.table, s.length ∷ s.opened ∷ s.revision ∷ s.numbers, s.masks, take s.opened s.marks, take s.opened s.tags)

abbrev control_octet : Outcome → ℕ
control_octet r = get_or r.buffer r.answer.state.start 0

pub close_length_ignored : RuledOut (SeesOnly all_but_the_octets control_octet accepts_it) close_field
unfolding close_1 close_outer
close_length_ignored = sees_only all_but_the_octets control_octet accepts_it close_1 close_outer refl refl refl (eqb-false 0x10 0x11 refl)
