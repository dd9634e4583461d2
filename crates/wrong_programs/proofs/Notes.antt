-- Wrong programs in the place of the writer's calls that get the notes of single fields wrong (document 02, item 5).
use Prim.Native.Nat.{ℕ, ◌+◌, ◌^◌, ◌≤◌}
use native.Mathlib.Omega.{arith}
use mathlib.Core.Path.{◌≡◌, refl, ap}
use mathlib.Core.Bool.{Bool, true, false, cond}
use mathlib.Core.List.{List, [], ◌∷◌, ◌++◌}
use lib.ListN.{get_or, set, replicate}
use lib.Seq.{set-get_or, get_or-set_other}
use lib.Dec.{T, eqb, ltb}
use borrow.Author.Tests.{eqb-false}
use Rattle.table.specs.Schema as schemas
use Rattle.table.specs.declared.Table.{Table}
use Rattle.writer_state.specs.Answer as writes
use Rattle.writer_state.specs.Call as call
use Rattle.writer_state.specs.Calls as calls
use Rattle.writer_state.specs.Calls.{mask, single, noted, mask_with, masked, back}
use Rattle.writer_state.specs.declared.State.{State}
use Rattle.writer_state.specs.declared.Written.{Written}
use Rattle.writer_laws.proofs.Unchanged.{refused_unchanged}
use Rattle.wrong_programs.specs.Kinds.{RuledOut, Rejects, Accepts, Invents, Changes, SeesOnly, always, due, rejected_by}
use Rattle.wrong_programs.specs.Writer.{Put, uint, int, octets, Value, call_of, PutInput, PutCall, Outcome, put, OpenInput, OpenCall, open_field, CloseCall, close_field}
use Rattle.wrong_programs.proofs.RulingOut.{Sample, given, fixes, rejects, accepts, invents, changes, sees_only, differ_at}
use Rattle.wrong_programs.proofs.Computing.{writer}
use Rattle.wrong_programs.proofs.WriterStates.{table, singles, unused, ending, noting, accepted, refused, outcome}
use Rattle.wrong_programs.proofs.Puts.{each, kind, five}

-- ---- put_uint, put_int and put_octets

abbrev asked : (p : Put) → Table → State → ℕ → List ℕ → PutInput p
asked p t s tag buffer = record { table = t; state = s; tag = tag; value = five p; buffer = buffer }

-- A state with no field open, by its revision, the mask of the message and where the octets stored so far start.
abbrev at : ℕ → ℕ → ℕ → State
at revision mask start = noting revision (mask ∷ []) start 0 [] []

-- A put of 5 in the single field of the tag 1. The tag's entry is the first in the table, so bit 0 notes it.
first : (p : Put) → Sample (put p)
unfolding writer kind five
first = each (λ p. asked p (singles (kind p)) (at 2 0 6) 1 unused) (outcome (accepted (at 2 1 4)) (ending (0x11 ∷ 5 ∷ []))) tt tt tt refl refl refl

-- The same where the field is noted already, under both revisions, and with no room under revision 2.
abbrev again : (p : Put) → ℕ → PutInput p
again p start = asked p (singles (kind p)) (at 2 1 start) 1 unused

repeated : (p : Put) → Sample (put p)
unfolding writer kind five
repeated = each (λ p. again p 6) (outcome (refused 20 (at 2 1 6)) unused) tt tt tt refl refl refl

under_1 : (p : Put) → Sample (put p)
unfolding writer kind five
under_1 = each (λ p. asked p (singles (kind p)) (at 1 1 6) 1 unused) (outcome (accepted (at 1 1 4)) (ending (0x11 ∷ 5 ∷ []))) tt tt tt refl refl refl

no_room_lem : (p : Put) → Sample (put p)
unfolding writer kind five
no_room_lem = each (λ p. again p 0) (outcome (refused 20 (at 2 1 0)) unused) tt tt tt refl refl refl

-- The field is noted, and is a message.
other_kind : (p : Put) → Sample (put p)
unfolding writer five
other_kind = each (λ p. asked p (singles 5) (at 2 1 6) 1 unused) (outcome (refused 8 (at 2 1 6)) unused) tt tt tt refl refl refl

-- The field is noted in the message around the innermost one.
abbrev noted_around : (p : Put) → PutInput p
noted_around p = asked p (singles (kind p)) (noting 2 (1 ∷ []) 6 1 (6 ∷ []) (1 ∷ [])) 1 unused

inside : (p : Put) → Sample (put p)
unfolding writer kind five
inside =
    each noted_around (outcome (accepted (noting 2 (1 ∷ 1 ∷ []) 4 1 (6 ∷ []) (1 ∷ []))) (ending (0x11 ∷ 5 ∷ []))) tt tt tt refl refl refl

-- All bits are set, and no entry is single.
abbrev all_bits : ℕ
all_bits = 0xffffffffffffffff

many : (p : Put) → Sample (put p)
unfolding writer kind five
many =
    each (λ p. asked p (table (kind p)) (at 2 all_bits 6) 1 unused) (outcome (accepted (at 2 all_bits 4)) (ending (0x11 ∷ 5 ∷ []))) tt tt tt refl refl
    refl

-- Octets that are no text, for a text that is noted.
unfoldable pub not_text : Value octets
unfolding Value
not_text = 0xff ∷ []

abbrev not_text_again : PutInput octets
not_text_again = record { table = singles 4; state = at 2 1 6; tag = 1; value = not_text; buffer = unused }

no_text_lem : Sample (put octets)
unfolding writer not_text
no_text_lem = given not_text_again (outcome (refused 20 (at 2 1 6)) unused) tt refl

abbrev refusal : Outcome → ℕ
refusal r = r.answer.refusal

abbrev masks_after : Outcome → List ℕ
masks_after r = r.answer.state.masks

abbrev mask_after : Outcome → ℕ
mask_after r = get_or (masks_after r) 0 0

-- A part of the state that a call keeps if it is accepted is kept in any case.
kept : {C : Type 0} (part : State → C) (refusal : ℕ) (before after : State) → part after ≡ part before
    → part (calls.call_result refusal before after).state ≡ part before
unfolding calls.call_result
kept part refusal before after e = go (eqb refusal 0)
  where
    go : (b : Bool) → part (cond b after before) ≡ part before
    go true = e
    go false = refl

-- Under revision 1 the mask of the innermost message stays.
unnoted : (t : Table) (s : State) (tag : ℕ) → s.revision ≡ 1 → set s.masks s.opened (mask_with t s tag) ≡ s.masks
unfolding mask_with single schemas.schema schemas.schema_of mask
unnoted t s tag e = rw e (set-get_or s.masks s.opened 0)

-- A part of the state that an accepted put keeps is kept by every put.
put_keeps : {C : Type 0} (part : State → C) (p : Put) (x : PutCall p)
    → ((size : ℕ) → part (masked (back x.value.state size) (mask_with x.value.table x.value.state x.value.tag)) ≡ part x.value.state)
    → part (put p x).answer.state ≡ part x.value.state
unfolding put call_of Value writes.answer calls.put
put_keeps part uint x e = kept part _ _ _ (e _)
put_keeps part int x e = kept part _ _ _ (e _)
put_keeps part octets x e = kept part _ _ _ (e _)

-- The tag 1 is single in the first sample.
first_single : (p : Put) → single (singles (kind p)) (at 2 0 6) 1 ≡ true
unfolding writer kind
first_single uint = refl
first_single int = refl
first_single octets = refl

module _ (p : Put) where
  abbrev masks_before : PutCall p → List ℕ
  masks_before x = x.value.state.masks

  -- The contract accepts the call.
  abbrev accepts_it : PutCall p → Type 0
  accepts_it = due (put p) refusal 0

  -- It accepts the call, and the field is single.
  abbrev puts_single : PutCall p → Type 0
  puts_single x = accepts_it x × (single x.value.table x.value.state x.value.tag ≡ true)

  -- It notes nothing.
  pub put_notes_nothing : RuledOut (Invents masks_after masks_before puts_single) (put p)
  unfolding first
  put_notes_nothing = invents masks_after masks_before puts_single (first p) (fixes refusal (first p), first_single p) (differ_at 0 refl)

  -- It notes by the tag, and not by the order in the table.
  abbrev puts_low_tag : PutCall p → Type 0
  puts_low_tag x = puts_single x × (x.value.state ≡ at 2 0 6) × T (ltb x.value.tag 64)

  pub put_notes_by_tag : RuledOut (Invents mask_after (λ (x : PutCall p). 2 ^ x.value.tag) puts_low_tag) (put p)
  unfolding first
  put_notes_by_tag =
      invents mask_after (λ (x : PutCall p). 2 ^ x.value.tag) puts_low_tag (first p) ((fixes refusal (first p), first_single p), refl, tt)
      (eqb-false 1 2 refl)

  -- It notes a field under revision 1. One such call is enough.
  pub put_notes_under_1 : RuledOut (Changes masks_after masks_before (λ (x : PutCall p). x.value.state.revision ≡ 1)) (put p)
  unfolding masked back
  put_notes_under_1 =
      changes masks_after masks_before (λ (x : PutCall p). x.value.state.revision ≡ 1)
      (λ x e. put_keeps (λ (s : State). s.masks) p x (λ size. unnoted x.value.table x.value.state x.value.tag e))

  -- It notes a field that it refuses. One such call is enough.
  pub put_notes_refused : RuledOut (Changes masks_after masks_before (rejected_by (put p) refusal)) (put p)
  unfolding put
  put_notes_refused =
      changes masks_after masks_before (rejected_by (put p) refusal)
      (λ x ne. ap (λ (s : State). s.masks)
      (refused_unchanged x.value.table x.value.state x.value.buffer (call_of p x.value.tag x.value.value) ne).same_state)

  -- It accepts a field that is noted.
  pub put_accepts_repeats : RuledOut (Accepts refusal (λ (x : PutCall p). x.value ≡ again p 6)) (put p)
  unfolding repeated
  put_accepts_repeats = accepts refusal (λ (x : PutCall p). x.value ≡ again p 6) (repeated p) refl (eqb-false 20 0 refl)

  -- It rejects a field for the notes of the message around.
  pub put_rejects_noted_around : RuledOut (Rejects refusal (λ (x : PutCall p). x.value ≡ noted_around p)) (put p)
  unfolding inside
  put_rejects_noted_around = rejects refusal (λ (x : PutCall p). x.value ≡ noted_around p) (inside p) refl refl

  -- It looks at bits that belong to no single field.
  abbrev has_all_bits : PutCall p → Type 0
  has_all_bits x = accepts_it x × (x.value.state ≡ at 2 all_bits 6)

  pub put_rejects_other_bits : RuledOut (Rejects refusal has_all_bits) (put p)
  unfolding many
  put_rejects_other_bits = rejects refusal has_all_bits (many p) (fixes refusal (many p), refl) refl

  -- It does not look at the revision.
  abbrev all_but_the_revision : PutCall p → Table × List ℕ × List ℕ × List ℕ × List ℕ × ℕ × Value p × List ℕ
  all_but_the_revision x =
      let s = x.value.state in
      (x.value.table, s.length ∷ s.start ∷ s.opened ∷ s.numbers, s.masks, s.marks, s.tags, x.value.tag, x.value.value, x.value.buffer)

  abbrev has_revision : PutCall p → Type 0
  has_revision x = schemas.is_revision x.value.state.revision ≡ true

  pub put_revision_ignored : RuledOut (SeesOnly all_but_the_revision refusal has_revision) (put p)
  unfolding schemas.is_revision repeated under_1
  put_revision_ignored = sees_only all_but_the_revision refusal has_revision (repeated p) (under_1 p) refl refl refl (eqb-false 20 0 refl)

  -- It refuses a repeat with 9 where there is no room either, or with 20 where the tag has another kind.
  pub put_room_before_repeat : RuledOut (Invents refusal (λ (x : PutCall p). 9) (λ (x : PutCall p). x.value ≡ again p 0)) (put p)
  unfolding no_room_lem
  put_room_before_repeat = invents refusal (λ (x : PutCall p). 9) (λ (x : PutCall p). x.value ≡ again p 0) (no_room_lem p) refl (eqb-false 20 9 refl)

  abbrev noted_with_another_kind : PutCall p → Type 0
  noted_with_another_kind x = due (put p) refusal 8 x × (noted x.value.table x.value.state x.value.tag ≡ true)

  pub put_repeat_before_kind : RuledOut (Invents refusal (λ (x : PutCall p). 20) noted_with_another_kind) (put p)
  unfolding writer other_kind
  put_repeat_before_kind =
      invents refusal (λ (x : PutCall p). 20) noted_with_another_kind (other_kind p) (fixes refusal (other_kind p), refl) (eqb-false 8 20 refl)

-- It refuses a repeat with 7 where the octets are no text either.
pub put_text_before_repeat : RuledOut (Invents refusal (λ (x : PutCall octets). 7) (λ (x : PutCall octets). x.value ≡ not_text_again)) (put octets)
unfolding no_text_lem
put_text_before_repeat =
    invents refusal (λ (x : PutCall octets). 7) (λ (x : PutCall octets). x.value ≡ not_text_again) no_text_lem refl (eqb-false 20 7 refl)

-- ---- open_field

abbrev opening : Table → State → OpenInput
opening t s = record { table = t; state = s; tag = 1 }

-- The single field of the tag 1 is opened, and refused where it is noted, also with seven fields open.
open_first : Sample open_field
unfolding writer
open_first = given (opening (singles 5) (at 2 0 6)) (accepted (noting 2 (1 ∷ []) 6 1 (6 ∷ []) (1 ∷ []))) tt refl

open_repeated : Sample open_field
unfolding writer
open_repeated = given (opening (singles 5) (at 2 1 6)) (refused 20 (at 2 1 6)) tt refl

abbrev seven_open : State
seven_open = noting 2 (replicate 7 0 ++ (1 ∷ [])) 6 7 (replicate 7 6) (replicate 7 1)

open_deep : Sample open_field
unfolding writer
open_deep = given (opening (singles 5) seven_open) (refused 20 seven_open) tt refl

-- A message that was open before has left notes at the level of the new one.
open_next : Sample open_field
unfolding writer
open_next = given (opening (table 5) (noting 2 (0 ∷ 1 ∷ []) 6 0 [] [])) (accepted (noting 2 [] 6 1 (6 ∷ []) (1 ∷ []))) tt refl

abbrev open_refusal : Written → ℕ
open_refusal r = r.refusal

-- The mask of the message at a level, after an open and before it.
abbrev open_mask_after : ℕ → Written → ℕ
open_mask_after k r = get_or r.state.masks k 0

abbrev open_mask_before : ℕ → OpenCall → ℕ
open_mask_before k x = get_or x.value.state.masks k 0

-- The contract accepts an open in the outermost message, and one of a single field there.
abbrev opens : OpenCall → Type 0
opens x = due open_field open_refusal 0 x × (x.value.state.opened ≡ 0)

abbrev opens_single : OpenCall → Type 0
opens_single x = opens x × (single x.value.table x.value.state x.value.tag ≡ true)

-- It does not note the field in the message that it stands in.
pub open_notes_nothing : RuledOut (Invents (open_mask_after 0) (open_mask_before 0) opens_single) open_field
unfolding writer open_first
open_notes_nothing = invents (open_mask_after 0) (open_mask_before 0) opens_single open_first ((refl, refl), refl) (eqb-false 1 0 refl)

-- It notes the field in the message that it holds.
abbrev mask_due : OpenCall → ℕ
mask_due x = mask_with x.value.table x.value.state x.value.tag

abbrev opens_first : OpenCall → Type 0
opens_first x = opens_single x × (open_mask_before 0 x ≡ 0)

pub open_notes_inside : RuledOut (Invents (open_mask_after 1) mask_due opens_first) open_field
unfolding writer open_first
open_notes_inside = invents (open_mask_after 1) mask_due opens_first open_first (((refl, refl), refl), refl) (eqb-false 0 1 refl)

-- The new message starts with the notes of an earlier one at its level.
pub open_keeps_old_notes : RuledOut (Invents (open_mask_after 1) (open_mask_before 1) opens) open_field
unfolding open_next
open_keeps_old_notes = invents (open_mask_after 1) (open_mask_before 1) opens open_next (refl, refl) (eqb-false 0 1 refl)

-- It notes a field under revision 1, in the message that it stands in or in one around that. One such call is enough.
module _ (k : ℕ) where
  abbrev under_revision_1 : OpenCall → Type 0
  under_revision_1 x = (x.value.state.revision ≡ 1) × (k ≤ x.value.state.opened)

  pub open_notes_under_1 : RuledOut (Changes (open_mask_after k) (open_mask_before k) under_revision_1) open_field
  unfolding open_field writes.answer calls.opening calls.deeper masked
  open_notes_under_1 =
      changes (open_mask_after k) (open_mask_before k) under_revision_1
      (λ x w.
      let s = x.value.state in
      let h = w.1 in
      let same = unnoted x.value.table s x.value.tag w.0 in
      kept (λ (a : State). get_or a.masks k 0) _ _ _ (rw same (get_or-set_other s.masks (s.opened + 1) k 0 0 (λ e. omega arith))))

-- It notes a field that it refuses. One such call is enough.
pub open_notes_refused : RuledOut (Changes (λ (r : Written). r.state.masks) (λ (x : OpenCall). x.value.state.masks)
    (rejected_by open_field open_refusal)) open_field
unfolding open_field
open_notes_refused = changes (λ (r : Written). r.state.masks) (λ (x : OpenCall). x.value.state.masks) (rejected_by open_field open_refusal)
    (λ x ne. ap (λ (s : State). s.masks) (refused_unchanged x.value.table x.value.state [] (call.open_field x.value.tag) ne).same_state)

-- It accepts a field that is noted.
abbrev opens_noted : OpenCall → Type 0
opens_noted x = due open_field open_refusal 20 x × (x.value.state.opened ≡ 0)

pub open_accepts_repeats : RuledOut (Accepts open_refusal opens_noted) open_field
unfolding open_repeated
open_accepts_repeats = accepts open_refusal opens_noted open_repeated (refl, refl) (eqb-false 20 0 refl)

-- It refuses a repeat with 5 where seven fields are open too.
abbrev repeats_too_deep : OpenCall → Type 0
repeats_too_deep x = due open_field open_refusal 20 x × (x.value.state.opened ≡ 7)

pub open_depth_before_repeat : RuledOut (Invents open_refusal (λ (x : OpenCall). 5) repeats_too_deep) open_field
unfolding open_deep
open_depth_before_repeat = invents open_refusal (λ (x : OpenCall). 5) repeats_too_deep open_deep (refl, refl) (eqb-false 20 5 refl)

-- ---- close_field

-- It changes the notes of any message. One such call is enough.
pub close_changes_notes : RuledOut (Changes masks_after (λ (x : CloseCall). x.value.state.masks) always) close_field
unfolding close_field writes.answer calls.closing calls.outer back
close_changes_notes = changes masks_after (λ (x : CloseCall). x.value.state.masks) always (λ x w. kept (λ (s : State). s.masks) _ _ _ refl)

-- ---- the revision

-- It does not keep to the revision of the start. One such call is enough.
abbrev revision_after : Outcome → ℕ
revision_after r = r.answer.state.revision

pub put_changes_revision : (p : Put) → RuledOut (Changes revision_after (λ (x : PutCall p). x.value.state.revision) always) (put p)
unfolding masked back
put_changes_revision p =
    changes revision_after (λ (x : PutCall p). x.value.state.revision) always (λ x w. put_keeps (λ (s : State). s.revision) p x (λ size. refl))

pub open_changes_revision : RuledOut (Changes (λ (r : Written). r.state.revision) (λ (x : OpenCall). x.value.state.revision) always) open_field
unfolding open_field writes.answer calls.opening calls.deeper masked
open_changes_revision =
    changes (λ (r : Written). r.state.revision) (λ (x : OpenCall). x.value.state.revision) always
    (λ x w. kept (λ (s : State). s.revision) _ _ _ refl)

pub close_changes_revision : RuledOut (Changes revision_after (λ (x : CloseCall). x.value.state.revision) always) close_field
unfolding close_field writes.answer calls.closing calls.outer back
close_changes_revision =
    changes revision_after (λ (x : CloseCall). x.value.state.revision) always (λ x w. kept (λ (s : State). s.revision) _ _ _ refl)
