-- Wrong programs in the place of crudvim_check.
use Prim.Native.Nat.{ℕ}
use mathlib.Core.Path.{◌≡◌, refl, sym, ap, ◌∙◌}
use mathlib.Core.Bool.{true, false}
use mathlib.Core.List.{List, [], ◌∷◌}
use lib.ListN.{length}
use lib.Dec.{T, ltb}
use borrow.Author.Tests.{eqb-false}
use Rattle.reading.specs.declared.Checked.{Checked}
use Rattle.reading.specs.Checks as answers
use Rattle.message_calls.proofs.ShortAlready.{short_already}
use Rattle.wrong_programs.specs.Kinds.{RuledOut, Rejects, Accepts, AcceptsSome, Invents, SeesOnly, Follows, always, due, refusal_of, rejected_by}
use Rattle.wrong_programs.specs.Check.{CheckCall, check, short}
use Rattle.wrong_programs.proofs.RulingOut.{Sample, given, rejects, accepts, accepts_some, invents, sees_only, follows}
use Rattle.wrong_programs.proofs.Computing.{hproto}
use Rattle.wrong_programs.proofs.Witnesses.{uints, messages, asked}

abbrev accepted : ℕ → ℕ → Checked
accepted fields depth = record { refusal = 0; place = 0; fields = fields; depth = depth }

-- A field of no octets: a message, or raw under another number, with another tag or under another table.
nested : Sample check
unfolding hproto
nested = given (asked messages 0 (0x10 ∷ [])) (accepted 1 2) tt refl

under_another_number : Sample check
unfolding hproto
under_another_number = given (asked messages 1 (0x10 ∷ [])) (accepted 1 1) tt refl

of_tag_2 : Sample check
unfolding hproto
of_tag_2 = given (asked messages 0 (0x20 ∷ [])) (accepted 1 1) tt refl

raw : Sample check
unfolding hproto
raw = given (asked [] 0 (0x10 ∷ [])) (accepted 1 1) tt refl

-- Two octets: two fields, or one.
two_fields : Sample check
unfolding hproto
two_fields = given (asked [] 0 (0x10 ∷ 0x10 ∷ [])) (accepted 2 1) tt refl

one_field : Sample check
unfolding hproto
one_field = given (asked [] 0 (0x11 ∷ 0x10 ∷ [])) (accepted 1 1) tt refl

-- Eight messages, one in the other.
eight_levels : Sample check
unfolding hproto
eight_levels = given (asked messages 0 (0x16 ∷ 0x15 ∷ 0x14 ∷ 0x13 ∷ 0x12 ∷ 0x11 ∷ 0x10 ∷ [])) (accepted 7 8) tt refl

-- Nine messages, one in the other.
nine_levels : Sample check
unfolding hproto
nine_levels = given (asked messages 0 (0x17 ∷ 0x16 ∷ 0x15 ∷ 0x14 ∷ 0x13 ∷ 0x12 ∷ 0x11 ∷ 0x10 ∷ [])) (answers.refusal 5 7) tt refl

number_16 : Sample check
unfolding hproto
number_16 = given (asked [] 16 []) (answers.refusal 2 0) tt refl

past_the_end_lem : Sample check
unfolding hproto
past_the_end_lem = given (asked [] 0 (0x11 ∷ [])) (answers.refusal 4 0) tt refl

-- A nested message that is a cut control part.
cut_inside : Sample check
unfolding hproto
cut_inside = given (asked messages 0 (0x11 ∷ 0xf0 ∷ [])) (answers.refusal 3 1) tt refl

abbrev refusal : Checked → ℕ
refusal c = c.refusal

abbrev place : Checked → ℕ
place c = c.place

abbrev fields : Checked → ℕ
fields c = c.fields

abbrev depth : Checked → ℕ
depth c = c.depth

abbrev message : CheckCall → List ℕ
message x = x.value.message

abbrev size : CheckCall → ℕ
size x = length (message x)

-- The contract accepts the call.
abbrev accepts_it : CheckCall → Type 0
accepts_it = due check refusal 0

-- It rejects every call.
pub rejects_all : RuledOut (Rejects refusal always) check
unfolding nested
rejects_all = rejects refusal always nested tt refl

-- It rejects a field that ends where the octets end, and so every message that has a field.
abbrev has_fields : CheckCall → Type 0
has_fields x = T (ltb 0 (size x))

pub rejects_last_field : RuledOut (Rejects refusal has_fields) check
unfolding nested
rejects_last_field = rejects refusal has_fields nested tt refl

-- It rejects a tag that is not in the table.
abbrev has_raw_fields : CheckCall → Type 0
has_raw_fields x = (x.value.table ≡ []) × has_fields x

pub rejects_raw_fields : RuledOut (Rejects refusal has_raw_fields) check
unfolding raw
rejects_raw_fields = rejects refusal has_raw_fields raw (refl, tt) refl

-- It rejects a message eight deep.
pub rejects_eight_levels : RuledOut (Rejects refusal (due check depth 8)) check
unfolding eight_levels
rejects_eight_levels = rejects refusal (due check depth 8) eight_levels refl refl

-- It accepts what has to be rejected because it is nine deep.
pub accepts_nine_levels : RuledOut (Accepts refusal (due check refusal 5)) check
unfolding nine_levels
accepts_nine_levels = accepts refusal (due check refusal 5) nine_levels refl (eqb-false 5 0 refl)

-- It accepts every call.
pub accepts_all : RuledOut (Accepts refusal always) check
unfolding past_the_end_lem
accepts_all = accepts refusal always past_the_end_lem tt (eqb-false 4 0 refl)

-- It takes 16 as a message number.
abbrev empty_under_16 : CheckCall → Type 0
empty_under_16 x = (x.value.table ≡ []) × (x.value.revision ≡ 2) × (x.value.number ≡ 16) × (message x ≡ [])

pub accepts_number_16 : RuledOut (Accepts refusal empty_under_16) check
unfolding number_16
accepts_number_16 = accepts refusal empty_under_16 number_16 (refl, refl, refl, refl) (eqb-false 2 0 refl)

-- The count of fields of what it accepts, or the depth, is invented: it is the same each time, or is made from the length of the message.
abbrev all_but_the_octets : CheckCall → List ℕ × ℕ × ℕ × ℕ
all_but_the_octets x = (x.value.table, x.value.revision, x.value.number, size x)

pub depth_by_length : RuledOut (SeesOnly all_but_the_octets depth accepts_it) check
unfolding nested of_tag_2
depth_by_length = sees_only all_but_the_octets depth accepts_it nested of_tag_2 refl refl refl (eqb-false 2 1 refl)

pub fields_by_length : RuledOut (SeesOnly all_but_the_octets fields accepts_it) check
unfolding two_fields one_field
fields_by_length = sees_only all_but_the_octets fields accepts_it two_fields one_field refl refl refl (eqb-false 2 1 refl)

-- One of the two is made from the other: they are equal, or one more.
pub fields_by_depth : RuledOut (Follows depth fields accepts_it) check
unfolding two_fields one_field
fields_by_depth = follows depth fields accepts_it two_fields one_field refl refl refl (eqb-false 2 1 refl)

pub depth_by_fields : RuledOut (Follows fields depth accepts_it) check
unfolding nested raw
depth_by_fields = follows fields depth accepts_it nested raw refl refl refl (eqb-false 2 1 refl)

-- It takes the table to be the same each time, such as one with no entries.
abbrev all_but_the_table : CheckCall → ℕ × ℕ × List ℕ
all_but_the_table x = (x.value.revision, x.value.number, message x)

pub table_ignored : RuledOut (SeesOnly all_but_the_table depth accepts_it) check
unfolding nested raw
table_ignored = sees_only all_but_the_table depth accepts_it nested raw refl refl refl (eqb-false 2 1 refl)

-- It checks each message as one of the same number.
abbrev all_but_the_number : CheckCall → List ℕ × ℕ × List ℕ
all_but_the_number x = (x.value.table, x.value.revision, message x)

pub number_ignored : RuledOut (SeesOnly all_but_the_number depth accepts_it) check
unfolding nested under_another_number
number_ignored = sees_only all_but_the_number depth accepts_it nested under_another_number refl refl refl (eqb-false 2 1 refl)

-- Another number for a cut control part, and for contents past the end.
pub cut_control_renumbered : (n : ℕ) → (3 ≡ n → ⊥) → RuledOut (Invents refusal (λ (x : CheckCall). n) (due check refusal 3)) check
unfolding cut_inside
cut_control_renumbered n other = invents refusal (λ (x : CheckCall). n) (due check refusal 3) cut_inside refl other

pub past_the_end_renumbered : (n : ℕ) → (4 ≡ n → ⊥) → RuledOut (Invents refusal (λ (x : CheckCall). n) (due check refusal 4)) check
unfolding past_the_end_lem
past_the_end_renumbered n other = invents refusal (λ (x : CheckCall). n) (due check refusal 4) past_the_end_lem refl other

-- The place of a fault in a nested message is that of the outermost field that holds it: 0 where that field is the whole message.
abbrev cut_in_a_field : CheckCall → Type 0
cut_in_a_field x = ((c : ℕ) × (message x ≡ 0x11 ∷ c ∷ [])) × due check refusal 3 x

pub place_of_the_outer_field : RuledOut (Invents place (λ (x : CheckCall). 0) cut_in_a_field) check
unfolding cut_inside
place_of_the_outer_field = invents place (λ (x : CheckCall). 0) cut_in_a_field cut_inside ((0xf0, refl), refl) (eqb-false 1 0 refl)

-- ---- its answer whether the message is short

-- A uint 0 in one octet, which shortens to none; a uint 5, which is short; and the octet 0 raw, which is short too.
zero : Sample short
unfolding hproto
zero = given (asked uints 0 (0x11 ∷ 0x00 ∷ [])) false tt refl

five : Sample short
unfolding hproto
five = given (asked uints 0 (0x11 ∷ 0x05 ∷ [])) true tt refl

raw_zero : Sample short
unfolding hproto
raw_zero = given (asked [] 0 (0x11 ∷ 0x00 ∷ [])) true tt refl

-- A length that takes an octet more than it needs: of a raw field, and of a field in a nested message.
long_control : Sample short
unfolding hproto
long_control = given (asked [] 0 (0x1c ∷ 0x01 ∷ 0x00 ∷ [])) false tt refl

long_inside : Sample short
unfolding hproto
long_inside = given (asked messages 0 (0x12 ∷ 0x1c ∷ 0x00 ∷ [])) false tt refl

-- It says no to every message.
pub short_never : RuledOut (Rejects refusal_of always) short
unfolding five
short_never = rejects refusal_of always five tt refl

-- It says yes to every message.
pub short_always : RuledOut (Accepts refusal_of always) short
unfolding zero
short_always = accepts refusal_of always zero tt (eqb-false 1 0 refl)

-- It says yes to every message that the check accepts.
pub short_if_accepted : RuledOut (Accepts refusal_of accepts_it) short
unfolding hproto zero
short_if_accepted = accepts refusal_of accepts_it zero refl (eqb-false 1 0 refl)

-- It says yes to a message that the check rejects. One such call is enough.
pub short_though_rejected : RuledOut (AcceptsSome refusal_of (rejected_by check refusal)) short
unfolding check short
short_though_rejected = accepts_some refusal_of (rejected_by check refusal)
    (λ x ne e. eqb-false 1 0 refl
    (sym (ap refusal_of (short_already.refused_not_short x.value.table x.value.revision x.value.number (message x) ne)) ∙ e))

-- Its answer is made from the length of the message, or from the counts of fields and depth, and not from the octets.
abbrev length_and_counts : CheckCall → List ℕ × ℕ × ℕ × ℕ × ℕ × ℕ
length_and_counts x = (x.value.table, x.value.revision, x.value.number, size x, fields (check x), depth (check x))

pub short_by_length_and_counts : RuledOut (SeesOnly length_and_counts refusal_of accepts_it) short
unfolding hproto zero five
short_by_length_and_counts = sees_only length_and_counts refusal_of accepts_it zero five refl refl refl (eqb-false 1 0 refl)

-- It looks at the control parts alone, and not at the table, which says what fields are numbers.
pub short_by_control_parts : RuledOut (SeesOnly all_but_the_table refusal_of accepts_it) short
unfolding hproto zero raw_zero
short_by_control_parts = sees_only all_but_the_table refusal_of accepts_it zero raw_zero refl refl refl (eqb-false 1 0 refl)

-- It looks at the numbers alone, and so says yes to every message without any.
abbrev has_no_numbers : CheckCall → Type 0
has_no_numbers x = (x.value.table ≡ []) × accepts_it x

pub short_by_numbers : RuledOut (Accepts refusal_of has_no_numbers) short
unfolding hproto long_control
short_by_numbers = accepts refusal_of has_no_numbers long_control (refl, refl) (eqb-false 1 0 refl)

-- It looks at the outermost fields alone, and so says yes where the one field is a message and has a short control part.
abbrev has_short_outside : CheckCall → Type 0
has_short_outside x = (x.value.table ≡ messages) × (x.value.number ≡ 0) × ((a : ℕ) × (b : ℕ) × (message x ≡ 0x12 ∷ a ∷ b ∷ [])) × accepts_it x

pub short_by_outermost : RuledOut (Accepts refusal_of has_short_outside) short
unfolding hproto long_inside
short_by_outermost = accepts refusal_of has_short_outside long_inside (refl, refl, (0x1c, 0x00, refl), refl) (eqb-false 1 0 refl)
