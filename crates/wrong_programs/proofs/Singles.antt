-- Wrong programs in the place of crudvim_check that get single fields or the revision wrong (document 02, item 5).
use Prim.Native.Nat.{ℕ}
use mathlib.Core.Path.{◌≡◌, refl}
use mathlib.Core.Bool.{true}
use mathlib.Core.List.{List, [], ◌∷◌, ◌++◌}
use lib.ListN.{length, take, get_or, replicate}
use lib.Dec.{T, ltb}
use borrow.Author.Tests.{eqb-false}
use Rattle.reading.specs.declared.Checked.{Checked}
use Rattle.reading.specs.Checks as answers
use Rattle.table.specs.Schema.{is_revision}
use Rattle.message_calls.specs.Calls.{check_octets}
use Rattle.wrong_programs.specs.Kinds.{RuledOut, Rejects, Accepts, Invents, SeesOnly, due}
use Rattle.wrong_programs.specs.Faults.{BadRevisionRuledOut}
use Rattle.wrong_programs.specs.Check.{CheckInput, CheckCall, check}
use Rattle.wrong_programs.proofs.RulingOut.{Sample, given, rejects, accepts, invents, sees_only}
use Rattle.wrong_programs.proofs.Faults.{bad_revision}
use Rattle.wrong_programs.proofs.Demands.{accepted_within}
use Rattle.wrong_programs.proofs.Computing.{hproto}
use Rattle.wrong_programs.proofs.Witnesses.{uints, only_marked, asked_under}

abbrev accepted : ℕ → ℕ → Checked
accepted fields depth = record { refusal = 0; place = 0; fields = fields; depth = depth }

abbrev refusal : Checked → ℕ
refusal c = c.refusal

-- A call under a revision, with tag 1 as a single field of a kind.
abbrev single : ℕ → ℕ → List ℕ → CheckInput
single revision kind message = asked_under revision (only_marked kind 1) 0 message

-- Tag 1 of message 0 is a message of the number 1, and tag 1 of that is a single uint.
abbrev single_inside : List ℕ
single_inside = (1 ∷ 0 ∷ 5 ∷ 0 ∷ 0 ∷ 1 ∷ 5 ∷ 1 ∷ []) ++ (1 ∷ 0 ∷ 6 ∷ 1 ∷ 0 ∷ 1 ∷ 1 ∷ 0 ∷ 1 ∷ [])

-- Two empty fields with the tag 1: under revision 2 the second is a repeat, unless the mark is 0 or the record has none.
abbrev twice : List ℕ
twice = 0x10 ∷ 0x10 ∷ []

abbrev twice_unmarked : CheckInput
twice_unmarked = asked_under 2 uints 0 twice

repeated : Sample check
unfolding hproto
repeated = given (single 2 1 twice) (answers.refusal 20 1) tt refl

under_1 : Sample check
unfolding hproto
under_1 = given (single 1 1 twice) (accepted 2 1) tt refl

marked_many : Sample check
unfolding hproto
marked_many = given (asked_under 2 (only_marked 1 0) 0 twice) (accepted 2 1) tt refl

unmarked : Sample check
unfolding hproto
unmarked = given twice_unmarked (accepted 2 1) tt refl

-- The tag of the second field stands in an octet of its own.
longer : Sample check
unfolding hproto
longer = given (single 2 1 (0x10 ∷ 0xe0 ∷ 0x01 ∷ [])) (answers.refusal 20 1) tt refl

-- The second field has nine octets, is not text, or ends past the message.
wide : Sample check
unfolding hproto
wide = given (single 2 1 (0x10 ∷ 0x19 ∷ replicate 9 0)) (answers.refusal 20 1) tt refl

no_text_lem : Sample check
unfolding hproto
no_text_lem = given (single 2 4 (0x10 ∷ 0x11 ∷ 0xff ∷ [])) (answers.refusal 20 1) tt refl

abbrev cut_repeat : CheckInput
cut_repeat = single 2 1 (0x10 ∷ 0x11 ∷ [])

past_the_end_lem : Sample check
unfolding hproto
past_the_end_lem = given cut_repeat (answers.refusal 4 1) tt refl

-- A message and the one in its field have the single field once each, and so have two messages beside each other.
abbrev one_in_the_other : CheckInput
one_in_the_other = single 2 5 (0x11 ∷ 0x10 ∷ [])

nested : Sample check
unfolding hproto
nested = given one_in_the_other (accepted 2 3) tt refl

abbrev side_by_side : CheckInput
side_by_side = asked_under 2 single_inside 0 (0x11 ∷ 0x10 ∷ 0x11 ∷ 0x10 ∷ [])

two_nested : Sample check
unfolding hproto
two_nested = given side_by_side (accepted 4 2) tt refl

-- The check's answer for the same message under a revision.
abbrev under : ℕ → CheckCall → Checked
under revision x = check_octets x.value.table revision x.value.number x.value.message

-- It has no rule of single fields: it accepts a message in which nothing but a repeat is wrong.
abbrev only_repeats : CheckCall → Type 0
only_repeats x = due check refusal 20 x × ((under 1 x).refusal ≡ 0)

pub accepts_repeats : RuledOut (Accepts refusal only_repeats) check
unfolding hproto repeated
accepts_repeats = accepts refusal only_repeats repeated (refl, refl) (eqb-false 20 0 refl)

-- It applies the rule under revision 1.
abbrev repeats_under_1 : CheckCall → Type 0
repeats_under_1 x = (x.value.revision ≡ 1) × ((under 2 x).refusal ≡ 20)

pub rejects_repeats_under_1 : RuledOut (Rejects refusal repeats_under_1) check
unfolding hproto under_1
rejects_repeats_under_1 = rejects refusal repeats_under_1 under_1 (refl, refl) refl

-- It applies the rule across nested messages: to a field and one inside it, or to fields of two messages beside each other.
pub rejects_one_in_the_other : RuledOut (Rejects refusal (λ (x : CheckCall). x.value ≡ one_in_the_other)) check
unfolding nested
rejects_one_in_the_other = rejects refusal (λ (x : CheckCall). x.value ≡ one_in_the_other) nested refl refl

pub rejects_side_by_side : RuledOut (Rejects refusal (λ (x : CheckCall). x.value ≡ side_by_side)) check
unfolding two_nested
rejects_side_by_side = rejects refusal (λ (x : CheckCall). x.value ≡ side_by_side) two_nested refl refl

-- It compares control parts, not tags, and so accepts a repeat in a longer form.
abbrev in_a_longer_form : CheckCall → Type 0
in_a_longer_form x = ((tag : ℕ) × (x.value.message ≡ 0x10 ∷ 0xe0 ∷ tag ∷ [])) × due check refusal 20 x

pub accepts_longer_form : RuledOut (Accepts refusal in_a_longer_form) check
unfolding longer
accepts_longer_form = accepts refusal in_a_longer_form longer ((0x01, refl), refl) (eqb-false 20 0 refl)

-- It looks at the contents of a repeat first: where they are refused with 6 or 7 too, it says so.
abbrev contents_refused : ℕ → CheckCall → Type 0
contents_refused reason x = due check refusal 20 x × (under 1 x ≡ answers.refusal reason (check x).place)

pub number_first : RuledOut (Invents refusal (λ (x : CheckCall). 6) (contents_refused 6)) check
unfolding hproto wide
number_first = invents refusal (λ (x : CheckCall). 6) (contents_refused 6) wide (refl, refl) (eqb-false 20 6 refl)

pub text_first : RuledOut (Invents refusal (λ (x : CheckCall). 7) (contents_refused 7)) check
unfolding hproto no_text_lem
text_first = invents refusal (λ (x : CheckCall). 7) (contents_refused 7) no_text_lem (refl, refl) (eqb-false 20 7 refl)

-- It looks for a repeat before the length of the field.
pub repeat_before_length : RuledOut (Invents refusal (λ (x : CheckCall). 20) (λ (x : CheckCall). x.value ≡ cut_repeat)) check
unfolding past_the_end_lem
repeat_before_length = invents refusal (λ (x : CheckCall). 20) (λ (x : CheckCall). x.value ≡ cut_repeat) past_the_end_lem refl (eqb-false 4 20 refl)

-- The place of a repeat is that of the field that it repeats.
abbrev repeats_at_once : CheckCall → Type 0
repeats_at_once x = (x.value.message ≡ twice) × due check refusal 20 x

pub place_of_the_first : RuledOut (Invents (λ (c : Checked). c.place) (λ (x : CheckCall). 0) repeats_at_once) check
unfolding repeated
place_of_the_first = invents (λ (c : Checked). c.place) (λ (x : CheckCall). 0) repeats_at_once repeated (refl, refl) (eqb-false 1 0 refl)

-- It does not look at the mark of a record of length 6: each such field is single, or none is.
abbrev has_one_mark : CheckCall → Type 0
has_one_mark x = (length x.value.table ≡ 9) × T (ltb (get_or x.value.table 8 0) 2)

abbrev all_but_the_mark : CheckCall → List ℕ × ℕ × ℕ × List ℕ
all_but_the_mark x = (take 8 x.value.table, x.value.revision, x.value.number, x.value.message)

pub mark_ignored : RuledOut (SeesOnly all_but_the_mark refusal has_one_mark) check
unfolding repeated marked_many
mark_ignored = sees_only all_but_the_mark refusal has_one_mark repeated marked_many (refl, tt) (refl, tt) refl (eqb-false 20 0 refl)

-- It takes a field whose record has length 5 as single.
pub length_5_as_single : RuledOut (Rejects refusal (λ (x : CheckCall). x.value ≡ twice_unmarked)) check
unfolding unmarked
length_5_as_single = rejects refusal (λ (x : CheckCall). x.value ≡ twice_unmarked) unmarked refl refl

-- ---- the revision

-- It does not look at the revision.
abbrev has_revision : CheckCall → Type 0
has_revision x = is_revision x.value.revision ≡ true

abbrev all_but_the_revision : CheckCall → List ℕ × ℕ × List ℕ
all_but_the_revision x = (x.value.table, x.value.number, x.value.message)

pub revision_ignored : RuledOut (SeesOnly all_but_the_revision refusal has_revision) check
unfolding hproto repeated under_1
revision_ignored = sees_only all_but_the_revision refusal has_revision repeated under_1 refl refl refl (eqb-false 20 0 refl)

-- It rejects all calls under one of the revisions.
abbrev calls_under : ℕ → CheckCall → Type 0
calls_under revision x = x.value.revision ≡ revision

pub rejects_revision_1 : RuledOut (Rejects refusal (calls_under 1)) check
unfolding under_1
rejects_revision_1 = rejects refusal (calls_under 1) under_1 refl refl

pub rejects_revision_2 : RuledOut (Rejects refusal (calls_under 2)) check
unfolding unmarked
rejects_revision_2 = rejects refusal (calls_under 2) unmarked refl refl

-- It accepts another revision, such as 0, 3 or 257. One such call is enough.
pub accepts_other_revision : BadRevisionRuledOut check refusal (λ (x : CheckCall). x.value.revision)
unfolding check
accepts_other_revision =
    bad_revision refusal (λ (x : CheckCall). x.value.revision)
    (λ x e. (accepted_within x.value.table x.value.revision x.value.number x.value.message e).known)
