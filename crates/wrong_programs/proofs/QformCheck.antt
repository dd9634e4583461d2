-- Wrong programs in the place of crudvim_qform_check.
use Prim.Native.Nat.{ℕ}
use mathlib.Core.Path.{◌≡◌, refl}
use mathlib.Core.List.{List, [], ◌∷◌, ◌++◌}
use lib.Dec.{T, ltb}
use borrow.Author.Tests.{eqb-false}
use Rattle.reading.specs.Checks as answers
use Rattle.reading.specs.declared.Checked.{Checked}
use Rattle.wrong_programs.specs.Kinds.{RuledOut, Rejects, Accepts, Invents, SeesOnly, always, due}
use Rattle.wrong_programs.specs.Qform.{CheckInput, CheckCall, check}
use Rattle.wrong_programs.proofs.RulingOut.{Sample, given, rejects, accepts, invents, sees_only}
use Rattle.wrong_programs.proofs.Computing.{qform}
use Rattle.wrong_programs.proofs.QformMessages.{entry, odd_and_even, empty_data, short_data, message, field, two_fids}

abbrev accepted : ℕ → Checked
accepted fields = record { refusal = 0; place = 0; fields = fields; depth = 1 }

abbrev asked : List ℕ → List ℕ → CheckInput
asked dictionary message = record { dictionary = dictionary; message = message }

-- A field of odd size with its padding, and without.
pub padded : Sample check
unfolding qform odd_and_even message field
padded = given (asked odd_and_even (message (field 1 (7 ∷ 8 ∷ 9 ∷ 5 ∷ [])))) (accepted 1) tt refl

pub unpadded : Sample check
unfolding qform odd_and_even message field
unpadded = given (asked odd_and_even (message (field 1 (7 ∷ 8 ∷ 9 ∷ [])))) (answers.refusal 4 8) tt refl

-- The same octets as one field and as two.
as_one : Sample check
unfolding qform short_data two_fids
as_one = given (asked short_data two_fids) (accepted 1) tt refl

as_two : Sample check
unfolding qform empty_data two_fids
as_two = given (asked empty_data two_fids) (accepted 2) tt refl

-- A fid that the dictionary does not have, at the end of the message; one flag missing; one octet; and a faulty dictionary.
pub unknown : Sample check
unfolding qform odd_and_even message field
unknown = given (asked odd_and_even (message (field 3 []))) (answers.refusal 19 8) tt refl

pub fixed_only : Sample check
unfolding qform odd_and_even message
fixed_only = given (asked odd_and_even (message (0x80 ∷ 2 ∷ 0 ∷ 0 ∷ 0 ∷ 0 ∷ []))) (answers.refusal 16 8) tt refl

pub primitive_only : Sample check
unfolding qform odd_and_even message
primitive_only = given (asked odd_and_even (message (0x40 ∷ 2 ∷ 0 ∷ 0 ∷ 0 ∷ 0 ∷ []))) (answers.refusal 16 8) tt refl

pub cut : Sample check
unfolding qform odd_and_even message field
cut = given (asked odd_and_even (message (field 2 (0 ∷ 0 ∷ 0 ∷ 0 ∷ 0xc0 ∷ [])))) (answers.refusal 3 14) tt refl

pub faulty_dictionary : Sample check
unfolding qform odd_and_even entry
faulty_dictionary = given (asked (odd_and_even ++ entry 1 1 1) []) (answers.refusal 2 16) tt refl

abbrev refusal : Checked → ℕ
refusal c = c.refusal

abbrev fields : Checked → ℕ
fields c = c.fields

abbrev place : Checked → ℕ
place c = c.place

abbrev message_of : CheckCall → List ℕ
message_of x = x.value.message

-- The contract accepts the call.
abbrev accepts_it : CheckCall → Type 0
accepts_it = due check refusal 0

-- It rejects every call.
pub rejects_all : RuledOut (Rejects refusal always) check
unfolding padded
rejects_all = rejects refusal always padded tt refl

-- It rejects every message of more than one field.
abbrev several : CheckCall → Type 0
several x = T (ltb 1 (check x).fields)

pub rejects_several : RuledOut (Rejects refusal several) check
unfolding as_two
rejects_several = rejects refusal several as_two tt refl

-- It accepts every call.
pub accepts_all : RuledOut (Accepts refusal always) check
unfolding unpadded
accepts_all = accepts refusal always unpadded tt (eqb-false 4 0 refl)

-- The count of fields does not depend on the dictionary.
pub dictionary_ignored : RuledOut (SeesOnly message_of fields accepts_it) check
unfolding as_one as_two
dictionary_ignored = sees_only message_of fields accepts_it as_one as_two refl refl refl (eqb-false 1 2 refl)

-- A program that goes wrong for one call only.
abbrev this : Sample check → CheckCall → Type 0
this sample x = x ≡ sample.call

-- Padding is not needed at the end of the message.
pub padding_not_needed : RuledOut (Accepts refusal (this unpadded)) check
unfolding unpadded
padding_not_needed = accepts refusal (this unpadded) unpadded refl (eqb-false 4 0 refl)

-- Padding is never skipped: the octet after odd data begins the next field, which is then cut.
pub padding_not_skipped : RuledOut (Rejects refusal (this padded)) check
unfolding padded
padding_not_skipped = rejects refusal (this padded) padded refl refl

-- A fid that the dictionary does not have is refused with 4.
pub unknown_as_4 : RuledOut (Invents refusal (λ (x : CheckCall). 4) (this unknown)) check
unfolding unknown
unknown_as_4 = invents refusal (λ (x : CheckCall). 4) (this unknown) unknown refl (eqb-false 19 4 refl)

-- One flag is enough.
pub fixed_is_enough : RuledOut (Accepts refusal (this fixed_only)) check
unfolding fixed_only
fixed_is_enough = accepts refusal (this fixed_only) fixed_only refl (eqb-false 16 0 refl)

pub primitive_is_enough : RuledOut (Accepts refusal (this primitive_only)) check
unfolding primitive_only
primitive_is_enough = accepts refusal (this primitive_only) primitive_only refl (eqb-false 16 0 refl)

-- Every fault of a field is placed at the first field.
pub fault_at_the_first_field : RuledOut (Invents place (λ (x : CheckCall). 8) (this cut)) check
unfolding cut
fault_at_the_first_field = invents place (λ (x : CheckCall). 8) (this cut) cut refl (eqb-false 14 8 refl)

-- The message is looked at before the dictionary.
pub message_before_dictionary : RuledOut (Invents refusal (λ (x : CheckCall). 3) (this faulty_dictionary)) check
unfolding faulty_dictionary
message_before_dictionary = invents refusal (λ (x : CheckCall). 3) (this faulty_dictionary) faulty_dictionary refl (eqb-false 2 3 refl)

-- A faulty dictionary is always refused at 0.
pub dictionary_place_dropped : RuledOut (Invents place (λ (x : CheckCall). 0) (this faulty_dictionary)) check
unfolding faulty_dictionary
dictionary_place_dropped = invents place (λ (x : CheckCall). 0) (this faulty_dictionary) faulty_dictionary refl (eqb-false 16 0 refl)
