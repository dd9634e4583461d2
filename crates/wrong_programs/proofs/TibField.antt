-- Wrong programs in the place of tib_msg::field and tib_rv::field, and so of crudvim_tibmsg_field and crudvim_tibrv_field.
use Prim.Native.Nat.{ℕ, ◌+◌}
use native.Mathlib.Omega.{arith}
use mathlib.Core.Path.{◌≡◌, refl}
use mathlib.Core.Bool.{true, false, true≢false}
use mathlib.Core.List.{List, [], ◌∷◌}
use lib.Dec.{T, ltb}
use borrow.Author.Tests.{eqb-false}
use Rattle.tib_real.specs.FromOctets.{with_bits}
use Rattle.tib_real.specs.declared.types.Real.{Real}
use Rattle.tib_field.specs.Refused.{no_real, refused_field}
use Rattle.tib_field.specs.declared.FieldAnswer.{FieldAnswer}
use Rattle.wrong_programs.specs.Kinds.{RuledOut, Rejects, Accepts, Invents, SeesOnly, always, due}
use Rattle.wrong_programs.specs.Tib.{Format, tibmsg, FieldInput, FieldCall, field}
use Rattle.wrong_programs.proofs.RulingOut.{Sample, given, fixes, rejects, accepts, invents, sees_only}
use Rattle.wrong_programs.proofs.Computing.{tib}
use Rattle.wrong_programs.proofs.TibMessages.{both, message, string_type, one_field, two_fields, first}

-- The answer for a field with no name that begins at a place: its type, the length of its data, the type of its hint and its real.
abbrev found : ℕ → ℕ → ℕ → ℕ → Real → FieldAnswer
found at type n hint-type real =
    record {
      refusal = 0;
      place = 0;
      name_place = at + 1;
      name_length = 0;
      kind = type;
      data_place = at + 3;
      data_length = n;
      hinted = real.hinted;
      hint_kind = hint-type;
      hint = real.hint;
      real = real;
    }

abbrev asked : List ℕ → ℕ → FieldInput
asked message k = record { message = message; k = k }

-- The only field of a message; both fields of another, and the one after them.
only : (f : Format) → Sample (field f)
unfolding tib one_field string_type first
only = both field (λ f. asked (one_field f) 0) (λ f. found (first f) (string_type f) 3 0 no_real) tt tt refl refl

first_of_two : (f : Format) → Sample (field f)
unfolding tib two_fields string_type first
first_of_two = both field (λ f. asked (two_fields f) 0) (λ f. found (first f) (string_type f) 0 0 no_real) tt tt refl refl

second : (f : Format) → Sample (field f)
unfolding tib two_fields string_type first
second = both field (λ f. asked (two_fields f) 1) (λ f. found (first f + 3) (string_type f) 0 0 no_real) tt tt refl refl

no_third : (f : Format) → Sample (field f)
unfolding tib two_fields
no_third = both field (λ f. asked (two_fields f) 2) (λ f. refused_field 18 0) tt tt refl refl

-- TibMsg: a real 1 of four octets with the hint 2.
hinted_real : Sample (field tibmsg)
unfolding tib message
hinted_real =
    given (asked (message tibmsg (0 ∷ 0x47 ∷ 4 ∷ 0x3f ∷ 0x80 ∷ 0 ∷ 0 ∷ 6 ∷ 1 ∷ 2 ∷ [])) 0) (found 9 7 4 6 (with_bits 0x3ff0000000000000 2 true)) tt refl

abbrev refusal : FieldAnswer → ℕ
refusal a = a.refusal

abbrev data_place : FieldAnswer → ℕ
data_place a = a.data_place

abbrev data_length : FieldAnswer → ℕ
data_length a = a.data_length

abbrev message_of : FieldCall → List ℕ
message_of x = x.value.message

abbrev index : FieldCall → ℕ
index x = x.value.k

module _ (f : Format) where
  -- The contract accepts the call.
  abbrev accepts_it : FieldCall → Type 0
  accepts_it = due (field f) refusal 0

  -- It rejects every call.
  pub rejects_all : RuledOut (Rejects refusal always) (field f)
  unfolding only
  rejects_all = rejects refusal always (only f) tt refl

  -- It rejects every call for another field than the first.
  abbrev later : FieldCall → Type 0
  later x = T (ltb 0 (index x))

  pub rejects_later : RuledOut (Rejects refusal later) (field f)
  unfolding second
  rejects_later = rejects refusal later (second f) tt refl

  -- It accepts every call.
  pub accepts_all : RuledOut (Accepts refusal always) (field f)
  unfolding no_third
  accepts_all = accepts refusal always (no_third f) tt (eqb-false 18 0 refl)

  -- It gives the same field for each k.
  pub k_ignored : RuledOut (SeesOnly message_of data_place accepts_it) (field f)
  unfolding first_of_two second
  k_ignored =
      sees_only message_of data_place accepts_it (first_of_two f) (second f) (fixes refusal (first_of_two f)) (fixes refusal (second f)) refl
      (λ (e : first f + 3 ≡ first f + 3 + 3). absurd (omega arith))

  -- The length of the data is the same each time, or is made from k alone.
  pub message_ignored : RuledOut (SeesOnly index data_length accepts_it) (field f)
  unfolding only first_of_two
  message_ignored =
      sees_only index data_length accepts_it (only f) (first_of_two f) (fixes refusal (only f)) (fixes refusal (first_of_two f)) refl
      (eqb-false 3 0 refl)

-- No field of a TibMsg has a hint.
pub hint_dropped : RuledOut (Invents (λ (a : FieldAnswer). a.hinted) (λ (x : FieldCall). false) always) (field tibmsg)
unfolding hinted_real
hint_dropped = invents (λ (a : FieldAnswer). a.hinted) (λ (x : FieldCall). false) always hinted_real tt true≢false

-- Every real of a TibMsg is 0.
pub real_dropped : RuledOut (Invents (λ (a : FieldAnswer). a.real.bits) (λ (x : FieldCall). 0) always) (field tibmsg)
unfolding hinted_real
real_dropped = invents (λ (a : FieldAnswer). a.real.bits) (λ (x : FieldCall). 0) always hinted_real tt (eqb-false 0x3ff0000000000000 0 refl)
