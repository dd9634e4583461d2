-- Wrong programs in the place of crudvim_tibmsg_check and crudvim_tibrv_check.
use Prim.Native.Nat.{ℕ}
use mathlib.Core.Path.{◌≡◌, refl, sym}
use mathlib.Core.List.{List, [], ◌∷◌}
use lib.ListN.{length, replicate}
use lib.Dec.{T, ltb}
use borrow.Author.Tests.{eqb-false}
use Rattle.reading.specs.Checks as answers
use Rattle.reading.specs.declared.Checked.{Checked}
use Rattle.wrong_programs.specs.Kinds.{RuledOut, Rejects, Accepts, Invents, SeesOnly, always, due}
use Rattle.wrong_programs.specs.Tib.{Format, tibmsg, tibrv, MessageCall, check}
use Rattle.wrong_programs.proofs.RulingOut.{Sample, given, fixes, rejects, accepts, invents, sees_only}
use Rattle.wrong_programs.proofs.Computing.{tib}
use Rattle.wrong_programs.proofs.TibMessages.{both, message, string, one_field, two_fields, cut_name, first}

abbrev accepted : ℕ → ℕ → Checked
accepted fields depth = record { refusal = 0; place = 0; fields = fields; depth = depth }

-- Messages of one length with one field and with two, and one that ends inside the name of its field.
one : (f : Format) → Sample (check f)
unfolding tib one_field
one = both check one_field (λ f. accepted 1 1) tt tt refl refl

two : (f : Format) → Sample (check f)
unfolding tib two_fields
two = both check two_fields (λ f. accepted 2 1) tt tt refl refl

same_length : (f : Format) → length (one_field f) ≡ length (two_fields f)
unfolding one_field two_fields
same_length tibmsg = refl
same_length tibrv = refl

cut : (f : Format) → Sample (check f)
unfolding tib cut_name first
cut = both check cut_name (λ f. answers.refusal 3 (first f)) tt tt refl refl

-- TibrvMsg: a field that holds a message with no fields, a field of as many octets that holds none, and one that holds a message that ends
-- inside the name of its field.
abbrev holder : List ℕ → List ℕ
holder s = 0 ∷ 1 ∷ 0x7a ∷ s

nested : Sample (check tibrv)
unfolding tib message
nested = given (message tibrv (holder (message tibrv []))) (accepted 1 2) tt refl

flat : Sample (check tibrv)
unfolding tib message string
flat = given (message tibrv (string tibrv (replicate 8 0))) (accepted 1 1) tt refl

cut_inside : Sample (check tibrv)
unfolding tib cut_name
cut_inside = given (message tibrv (holder (cut_name tibrv))) (answers.refusal 3 19) tt refl

-- TibMsg: a type octet with the bit 20 set.
pub bit_20 : Sample (check tibmsg)
unfolding tib message
bit_20 = given (message tibmsg (0 ∷ 0x22 ∷ 0 ∷ [])) (answers.refusal 16 9) tt refl

abbrev refusal : Checked → ℕ
refusal c = c.refusal

abbrev fields : Checked → ℕ
fields c = c.fields

abbrev depth : Checked → ℕ
depth c = c.depth

abbrev size : MessageCall → ℕ
size x = length x.value

module _ (f : Format) where
  -- The contract accepts the call.
  abbrev accepts_it : MessageCall → Type 0
  accepts_it = due (check f) refusal 0

  -- It rejects every call.
  pub rejects_all : RuledOut (Rejects refusal always) (check f)
  unfolding one
  rejects_all = rejects refusal always (one f) tt refl

  -- It rejects every message of more than one field.
  abbrev several : MessageCall → Type 0
  several x = T (ltb 1 (check f x).fields)

  pub rejects_several : RuledOut (Rejects refusal several) (check f)
  unfolding two
  rejects_several = rejects refusal several (two f) (rw (two f).fixed tt) refl

  -- It accepts every call.
  pub accepts_all : RuledOut (Accepts refusal always) (check f)
  unfolding cut
  accepts_all = accepts refusal always (cut f) tt (eqb-false 3 0 refl)

  -- The count of fields of what it accepts is the same each time, or is made from the length of the message.
  pub fields_by_length : RuledOut (SeesOnly size fields accepts_it) (check f)
  unfolding one two
  fields_by_length =
      sees_only size fields accepts_it (one f) (two f) (fixes refusal (one f)) (fixes refusal (two f)) (same_length f) (eqb-false 1 2 refl)

  -- A name that is cut short is refused with 15, as a bad one.
  abbrev ends_in_a_name : MessageCall → Type 0
  ends_in_a_name x = x.value ≡ cut_name f

  pub cut_name_refused_as_bad : RuledOut (Invents refusal (λ (x : MessageCall). 15) ends_in_a_name) (check f)
  unfolding cut
  cut_name_refused_as_bad = invents refusal (λ (x : MessageCall). 15) ends_in_a_name (cut f) refl (eqb-false 3 15 refl)

-- The depth of every TibMsg that is accepted is another than 1.
pub depth_not_1 : (d : MessageCall → ℕ) → ((x : MessageCall) → d x ≡ 1 → ⊥) → RuledOut (Invents depth d (accepts_it tibmsg)) (check tibmsg)
unfolding one
depth_not_1 d other = invents depth d (accepts_it tibmsg) (one tibmsg) refl (λ (e : 1 ≡ d (one tibmsg).call). other (one tibmsg).call (sym e))

-- A type octet of a TibMsg with the bit 20 set is accepted.
pub bit_20_accepted : RuledOut (Accepts refusal (λ (x : MessageCall). x ≡ bit_20.call)) (check tibmsg)
unfolding bit_20
bit_20_accepted = accepts refusal (λ (x : MessageCall). x ≡ bit_20.call) bit_20 refl (eqb-false 16 0 refl)

-- It rejects the messages that have one field, which holds a message.
abbrev holds_one : MessageCall → Type 0
holds_one x = check tibrv x ≡ accepted 1 2

pub rejects_nested : RuledOut (Rejects refusal holds_one) (check tibrv)
unfolding nested
rejects_nested = rejects refusal holds_one nested refl refl

-- The depth is the same each time, or is made from the length of the message.
pub depth_by_length : RuledOut (SeesOnly size depth (accepts_it tibrv)) (check tibrv)
unfolding nested flat
depth_by_length = sees_only size depth (accepts_it tibrv) nested flat refl refl refl (eqb-false 2 1 refl)

-- A message in a message counts as two messages deeper.
pub nested_is_two_deeper : RuledOut (Invents depth (λ (x : MessageCall). 3) holds_one) (check tibrv)
unfolding nested
nested_is_two_deeper = invents depth (λ (x : MessageCall). 3) holds_one nested refl (eqb-false 2 3 refl)

-- A field that holds a message is not counted.
pub holder_not_counted : RuledOut (Invents fields (λ (x : MessageCall). 0) holds_one) (check tibrv)
unfolding nested
holder_not_counted = invents fields (λ (x : MessageCall). 0) holds_one nested refl (eqb-false 1 0 refl)

-- The place of a fault in a message in a message is counted from the inner one: 8, where the name of its first field is cut.
abbrev ends_in_an_inner_name : MessageCall → Type 0
ends_in_an_inner_name x = x.value ≡ message tibrv (holder (cut_name tibrv))

pub place_in_the_inner_message : RuledOut (Invents (λ (c : Checked). c.place) (λ (x : MessageCall). 8) ends_in_an_inner_name) (check tibrv)
unfolding cut_inside
place_in_the_inner_message = invents (λ (c : Checked). c.place) (λ (x : MessageCall). 8) ends_in_an_inner_name cut_inside refl (eqb-false 19 8 refl)
