-- Wrong programs in the place of tib_qform::field, and so of crudvim_qform_field.
use Prim.Native.Nat.{ℕ}
use mathlib.Core.Path.{◌≡◌, refl}
use mathlib.Core.List.{List, [], ◌∷◌, ◌++◌}
use lib.Dec.{T, ltb}
use borrow.Author.Tests.{eqb-false}
use Rattle.tib_qform.specs.CheckAndField.{refused_field}
use Rattle.tib_qform.specs.declared.types.FieldAnswer.{FieldAnswer}
use Rattle.wrong_programs.specs.Kinds.{RuledOut, Rejects, Accepts, SeesOnly, Invents, always, due}
use Rattle.wrong_programs.specs.Qform as calls
use Rattle.wrong_programs.specs.Qform.{CheckInput, FieldInput, FieldCall}
use Rattle.wrong_programs.proofs.RulingOut.{Sample, given, rejects, accepts, invents, sees_only}
use Rattle.wrong_programs.proofs.Computing.{qform}
use Rattle.wrong_programs.proofs.QformMessages.{odd_and_even, empty_data, short_data, message, field, two_fids}

abbrev asked : List ℕ → List ℕ → ℕ → FieldInput
asked dictionary message k = record { of = record { dictionary = dictionary; message = message }; k = k }

-- The answer for a field: its fid, type, offset of the data, and their length.
abbrev found : ℕ → ℕ → ℕ → ℕ → FieldAnswer
found fid type at n = record { refusal = 0; place = 0; fid = fid; kind = type; data_place = at; data_length = n }

-- A message with a field of odd size and one of even size.
unfoldable both : List ℕ
unfolding message field
both = message (field 1 (7 ∷ 8 ∷ 9 ∷ 5 ∷ []) ++ field 2 (1 ∷ 2 ∷ 3 ∷ 4 ∷ []))

pub first : Sample calls.field
unfolding qform odd_and_even both
first = given (asked odd_and_even both 0) (found 1 2 10 3) tt refl

second : Sample calls.field
unfolding qform odd_and_even both
second = given (asked odd_and_even both 1) (found 2 1 16 4) tt refl

no_third : Sample calls.field
unfolding qform odd_and_even both
no_third = given (asked odd_and_even both 2) (refused_field 18 0) tt refl

-- The same octets under other dictionaries.
as_one : Sample calls.field
unfolding qform short_data two_fids
as_one = given (asked short_data two_fids 0) (found 1 2 10 2) tt refl

as_two : Sample calls.field
unfolding qform empty_data two_fids
as_two = given (asked empty_data two_fids 0) (found 1 2 10 0) tt refl

abbrev refusal : FieldAnswer → ℕ
refusal a = a.refusal

abbrev fid : FieldAnswer → ℕ
fid a = a.fid

abbrev data_length : FieldAnswer → ℕ
data_length a = a.data_length

abbrev of_call : FieldCall → CheckInput
of_call x = x.value.of

abbrev message_and_k : FieldCall → List ℕ × ℕ
message_and_k x = (x.value.of.message, x.value.k)

abbrev index : FieldCall → ℕ
index x = x.value.k

-- The contract accepts the call.
abbrev accepts_it : FieldCall → Type 0
accepts_it = due calls.field refusal 0

-- It rejects every call.
pub rejects_all : RuledOut (Rejects refusal always) calls.field
unfolding first
rejects_all = rejects refusal always first tt refl

-- It rejects every call for another field than the first.
abbrev later : FieldCall → Type 0
later x = T (ltb 0 (index x))

pub rejects_later : RuledOut (Rejects refusal later) calls.field
unfolding second
rejects_later = rejects refusal later second tt refl

-- It accepts every call.
pub accepts_all : RuledOut (Accepts refusal always) calls.field
unfolding no_third
accepts_all = accepts refusal always no_third tt (eqb-false 18 0 refl)

-- It gives the same field for each k.
pub k_ignored : RuledOut (SeesOnly of_call fid accepts_it) calls.field
unfolding first second
k_ignored = sees_only of_call fid accepts_it first second refl refl refl (eqb-false 1 2 refl)

-- The length of the data does not depend on the dictionary.
pub dictionary_ignored : RuledOut (SeesOnly message_and_k data_length accepts_it) calls.field
unfolding as_one as_two
dictionary_ignored = sees_only message_and_k data_length accepts_it as_one as_two refl refl refl (eqb-false 2 0 refl)

-- The fid has its flags: 49152 and more.
pub fid_with_flags : RuledOut (Invents fid (λ (x : FieldCall). 0xc001) (λ (x : FieldCall). x ≡ first.call)) calls.field
unfolding first
fid_with_flags = invents fid (λ (x : FieldCall). 0xc001) (λ (x : FieldCall). x ≡ first.call) first refl (eqb-false 1 0xc001 refl)

-- The data have their padding.
pub data_with_padding : RuledOut (Invents data_length (λ (x : FieldCall). 4) (λ (x : FieldCall). x ≡ first.call)) calls.field
unfolding first
data_with_padding = invents data_length (λ (x : FieldCall). 4) (λ (x : FieldCall). x ≡ first.call) first refl (eqb-false 3 4 refl)
