-- Wrong programs in the place of crudvim_lookup and crudvim_lookup_last.
use Prim.Native.Nat.{ℕ}
use mathlib.Core.Path.{◌≡◌, refl}
use mathlib.Core.Bool.{true}
use mathlib.Core.List.{List, [], ◌∷◌}
use lib.ListN.{length}
use lib.IntN.{ℤ, pos}
use lib.Dec.{T, ltb}
use borrow.Author.Tests.{eqb-false}
use Rattle.table.specs.Schema.{is_revision}
use Rattle.message_calls.specs.Lookup as lookups
use Rattle.message_calls.specs.declared.Found.{Found}
use Rattle.message_calls.specs.Calls.{check_octets, lookup_octets, lookup_last_octets}
use Rattle.wrong_programs.specs.Kinds.{RuledOut, Rejects, Accepts, AcceptsSome, Invents, SeesOnly, always, due}
use Rattle.wrong_programs.specs.Check.{CheckInput}
use Rattle.wrong_programs.specs.Lookup.{LookupInput, LookupCall, lookup, lookup_last}
use Rattle.wrong_programs.proofs.RulingOut.{Sample, given, rejects, accepts, accepts_some, invents, sees_only, pos_differ}
use Rattle.wrong_programs.proofs.BehindTheCheck.{lookup_octets_checked, last_octets_checked}
use Rattle.wrong_programs.proofs.Computing.{hproto}
use Rattle.wrong_programs.proofs.Witnesses.{uints, ints, only_marked, asked_under, asked}

-- What is found of a field whose contents are one octet.
abbrev found : ℕ → ℕ → ℤ → ℕ → Found
found kind value signed start =
    record { refusal = 0; place = 0; kind = kind; value = value; signed = signed; start = start; length = 1 }

abbrev looked : CheckInput → ℕ → ℕ → LookupInput
looked within tag k = record { within = within; tag = tag; k = k }

-- Three fields of one octet, by their control octets: first 42 and 7 with the tag 1, then 9 with the tag 2, which is in no table here.
abbrev three : ℕ → ℕ → ℕ → List ℕ
three a b c = a ∷ 0x2a ∷ b ∷ 0x07 ∷ c ∷ 0x09 ∷ []

abbrev in_three : List ℕ → ℕ → ℕ → ℕ → LookupInput
in_three table number tag k = looked (asked table number (three 0x11 0x11 0x21)) tag k

first : Sample lookup
unfolding hproto
first = given (in_three uints 0 1 0) (found 1 42 (pos 0) 1) tt refl

second : Sample lookup
unfolding hproto
second = given (in_three uints 0 1 1) (found 1 7 (pos 0) 3) tt refl

no_third : Sample lookup
unfolding hproto
no_third = given (in_three uints 0 1 2) (lookups.refusal 18 0) tt refl

of_tag_2 : Sample lookup
unfolding hproto
of_tag_2 = given (in_three uints 0 2 0) (found 0 0 (pos 0) 5) tt refl

behind_tag_2 : Sample lookup
unfolding hproto
behind_tag_2 = given (looked (asked uints 0 (three 0x21 0x11 0x21)) 1 0) (found 1 7 (pos 0) 3) tt refl

under_number_1 : Sample lookup
unfolding hproto
under_number_1 = given (in_three uints 1 1 0) (found 0 0 (pos 0) 1) tt refl

first_int : Sample lookup
unfolding hproto
first_int = given (in_three ints 0 1 0) (found 2 0 (pos 42) 1) tt refl

int_behind_tag_2 : Sample lookup
unfolding hproto
int_behind_tag_2 = given (looked (asked ints 0 (three 0x21 0x11 0x21)) 1 0) (found 2 0 (pos 7) 3) tt refl

abbrev tag_16 : LookupInput
tag_16 = looked (asked [] 0 (0xe1 ∷ 0x10 ∷ 0x05 ∷ [])) 16 0

of_tag_16 : Sample lookup
unfolding hproto
of_tag_16 = given tag_16 (found 0 0 (pos 0) 2) tt refl

past_the_end_lem : Sample lookup
unfolding hproto
past_the_end_lem = given (looked (asked [] 0 (0x11 ∷ [])) 1 0) (lookups.refusal 4 0) tt refl

last : Sample lookup_last
unfolding hproto
last = given (in_three uints 0 1 0) (found 1 7 (pos 0) 3) tt refl

last_of_tag_2 : Sample lookup_last
unfolding hproto
last_of_tag_2 = given (in_three uints 0 2 0) (found 0 0 (pos 0) 5) tt refl

last_of_tag_3 : Sample lookup_last
unfolding hproto
last_of_tag_3 = given (in_three uints 0 3 0) (lookups.refusal 18 0) tt refl

last_before_tag_2 : Sample lookup_last
unfolding hproto
last_before_tag_2 = given (looked (asked uints 0 (three 0x11 0x21 0x21)) 1 0) (found 1 42 (pos 0) 1) tt refl

last_under_number_1 : Sample lookup_last
unfolding hproto
last_under_number_1 = given (in_three uints 1 1 0) (found 0 0 (pos 0) 3) tt refl

last_int : Sample lookup_last
unfolding hproto
last_int = given (in_three ints 0 1 0) (found 2 0 (pos 7) 3) tt refl

last_of_tag_16 : Sample lookup_last
unfolding hproto
last_of_tag_16 = given tag_16 (found 0 0 (pos 0) 2) tt refl

last_past_the_end : Sample lookup_last
unfolding hproto
last_past_the_end = given (looked (asked [] 0 (0x11 ∷ [])) 1 0) (lookups.refusal 4 0) tt refl

-- Two fields with the tag 1, which is single, under both revisions.
abbrev in_two : ℕ → LookupInput
in_two revision = looked (asked_under revision (only_marked 1 1) 0 (0x11 ∷ 0x2a ∷ 0x11 ∷ 0x07 ∷ [])) 1 0

repeated : Sample lookup
unfolding hproto
repeated = given (in_two 2) (lookups.refusal 20 2) tt refl

under_1 : Sample lookup
unfolding hproto
under_1 = given (in_two 1) (found 1 42 (pos 0) 1) tt refl

last_repeated : Sample lookup_last
unfolding hproto
last_repeated = given (in_two 2) (lookups.refusal 20 2) tt refl

last_under_1 : Sample lookup_last
unfolding hproto
last_under_1 = given (in_two 1) (found 1 7 (pos 0) 3) tt refl

abbrev refusal : Found → ℕ
refusal f = f.refusal

abbrev kind : Found → ℕ
kind f = f.kind

abbrev uint_value : Found → ℕ
uint_value f = f.value

abbrev start : Found → ℕ
start f = f.start

-- The contract accepts the call.
abbrev accepts_it : LookupCall → Type 0
accepts_it = due lookup refusal 0

abbrev last_accepts_it : LookupCall → Type 0
last_accepts_it = due lookup_last refusal 0

-- It finds no field.
pub rejects_all : RuledOut (Rejects refusal always) lookup
unfolding first
rejects_all = rejects refusal always first tt refl

pub last_rejects_all : RuledOut (Rejects refusal always) lookup_last
unfolding last
last_rejects_all = rejects refusal always last tt refl

-- It rejects a tag over 15.
abbrev tag_over_15 : LookupCall → Type 0
tag_over_15 x = T (ltb 15 x.value.tag)

pub rejects_tags_over_15 : RuledOut (Rejects refusal tag_over_15) lookup
unfolding of_tag_16
rejects_tags_over_15 = rejects refusal tag_over_15 of_tag_16 tt refl

pub last_rejects_tags_over_15 : RuledOut (Rejects refusal tag_over_15) lookup_last
unfolding last_of_tag_16
last_rejects_tags_over_15 = rejects refusal tag_over_15 last_of_tag_16 tt refl

-- It accepts every call, or at least contents past the end.
pub accepts_all : RuledOut (Accepts refusal (due lookup refusal 4)) lookup
unfolding past_the_end_lem
accepts_all = accepts refusal (due lookup refusal 4) past_the_end_lem refl (eqb-false 4 0 refl)

pub last_accepts_all : RuledOut (Accepts refusal (due lookup_last refusal 4)) lookup_last
unfolding last_past_the_end
last_accepts_all = accepts refusal (due lookup_last refusal 4) last_past_the_end refl (eqb-false 4 0 refl)

-- It accepts a call where there is no such field.
pub absent_accepted : RuledOut (Accepts refusal (due lookup refusal 18)) lookup
unfolding no_third
absent_accepted = accepts refusal (due lookup refusal 18) no_third refl (eqb-false 18 0 refl)

pub last_absent_accepted : RuledOut (Accepts refusal (due lookup_last refusal 18)) lookup_last
unfolding last_of_tag_3
last_absent_accepted = accepts refusal (due lookup_last refusal 18) last_of_tag_3 refl (eqb-false 18 0 refl)

-- It accepts a message in which nothing but a repeat of a single field is wrong.
abbrev only_repeats : LookupCall → Type 0
only_repeats x =
    let c = x.value.within in
    due lookup refusal 20 x × ((lookup_octets c.table 1 c.number c.message x.value.tag x.value.k).refusal ≡ 0)

pub accepts_repeats : RuledOut (Accepts refusal only_repeats) lookup
unfolding hproto repeated
accepts_repeats = accepts refusal only_repeats repeated (refl, refl) (eqb-false 20 0 refl)

abbrev last_only_repeats : LookupCall → Type 0
last_only_repeats x =
    let c = x.value.within in
    due lookup_last refusal 20 x × ((lookup_last_octets c.table 1 c.number c.message x.value.tag).refusal ≡ 0)

pub last_accepts_repeats : RuledOut (Accepts refusal last_only_repeats) lookup_last
unfolding hproto last_repeated
last_accepts_repeats = accepts refusal last_only_repeats last_repeated (refl, refl) (eqb-false 20 0 refl)

-- It accepts what the check rejects, such as a repeat or another revision. One such call is enough.
abbrev check_rejects_it : LookupCall → Type 0
check_rejects_it x = let c = x.value.within in (check_octets c.table c.revision c.number c.message).refusal ≡ 0 → ⊥

pub accepts_rejected : RuledOut (AcceptsSome refusal check_rejects_it) lookup
unfolding lookup
accepts_rejected = accepts_some refusal check_rejects_it
    (λ x ne e.
    let c = x.value.within in
    ne (lookup_octets_checked c.table c.revision c.number c.message x.value.tag x.value.k e))

pub last_accepts_rejected : RuledOut (AcceptsSome refusal check_rejects_it) lookup_last
unfolding lookup_last
last_accepts_rejected = accepts_some refusal check_rejects_it
    (λ x ne e.
    let c = x.value.within in
    ne (last_octets_checked c.table c.revision c.number c.message x.value.tag e))

-- It gives the same field for each k.
abbrev all_but_k : LookupCall → CheckInput × ℕ
all_but_k x = (x.value.within, x.value.tag)

pub k_ignored : RuledOut (SeesOnly all_but_k start accepts_it) lookup
unfolding first second
k_ignored = sees_only all_but_k start accepts_it first second refl refl refl (eqb-false 1 3 refl)

-- It gives the first field for the last one.
abbrev start_of_the_first : LookupCall → ℕ
start_of_the_first x =
    let c = x.value.within in
    (lookup_octets c.table c.revision c.number c.message x.value.tag 0).start

pub first_for_last : RuledOut (Invents start start_of_the_first last_accepts_it) lookup_last
unfolding last
first_for_last = invents start start_of_the_first last_accepts_it last refl (eqb-false 3 1 refl)

-- It gives the same field for each tag.
abbrev all_but_the_tag : LookupCall → CheckInput × ℕ
all_but_the_tag x = (x.value.within, x.value.k)

pub tag_ignored : RuledOut (SeesOnly all_but_the_tag start accepts_it) lookup
unfolding first of_tag_2
tag_ignored = sees_only all_but_the_tag start accepts_it first of_tag_2 refl refl refl (eqb-false 1 5 refl)

pub last_tag_ignored : RuledOut (SeesOnly all_but_the_tag start last_accepts_it) lookup_last
unfolding last last_of_tag_2
last_tag_ignored = sees_only all_but_the_tag start last_accepts_it last last_of_tag_2 refl refl refl (eqb-false 3 5 refl)

-- It gives a kind that does not depend on the table, or on the message number.
abbrev all_but_the_table : LookupCall → ℕ × ℕ × List ℕ × ℕ × ℕ
all_but_the_table x = (x.value.within.revision, x.value.within.number, x.value.within.message, x.value.tag, x.value.k)

pub table_ignored : RuledOut (SeesOnly all_but_the_table kind accepts_it) lookup
unfolding first first_int
table_ignored = sees_only all_but_the_table kind accepts_it first first_int refl refl refl (eqb-false 1 2 refl)

pub last_table_ignored : RuledOut (SeesOnly all_but_the_table kind last_accepts_it) lookup_last
unfolding last last_int
last_table_ignored = sees_only all_but_the_table kind last_accepts_it last last_int refl refl refl (eqb-false 1 2 refl)

abbrev all_but_the_number : LookupCall → List ℕ × ℕ × List ℕ × ℕ × ℕ
all_but_the_number x = (x.value.within.table, x.value.within.revision, x.value.within.message, x.value.tag, x.value.k)

pub number_ignored : RuledOut (SeesOnly all_but_the_number kind accepts_it) lookup
unfolding first under_number_1
number_ignored = sees_only all_but_the_number kind accepts_it first under_number_1 refl refl refl (eqb-false 1 0 refl)

pub last_number_ignored : RuledOut (SeesOnly all_but_the_number kind last_accepts_it) lookup_last
unfolding last last_under_number_1
last_number_ignored = sees_only all_but_the_number kind last_accepts_it last last_under_number_1 refl refl refl (eqb-false 1 0 refl)

-- It does not look at the revision.
abbrev has_revision : LookupCall → Type 0
has_revision x = is_revision x.value.within.revision ≡ true

abbrev all_but_the_revision : LookupCall → List ℕ × ℕ × List ℕ × ℕ × ℕ
all_but_the_revision x = (x.value.within.table, x.value.within.number, x.value.within.message, x.value.tag, x.value.k)

pub revision_ignored : RuledOut (SeesOnly all_but_the_revision refusal has_revision) lookup
unfolding hproto repeated under_1
revision_ignored = sees_only all_but_the_revision refusal has_revision repeated under_1 refl refl refl (eqb-false 20 0 refl)

pub last_revision_ignored : RuledOut (SeesOnly all_but_the_revision refusal has_revision) lookup_last
unfolding hproto last_repeated last_under_1
last_revision_ignored = sees_only all_but_the_revision refusal has_revision last_repeated last_under_1 refl refl refl (eqb-false 20 0 refl)

-- It gives the same value or the same place each time, or one made from the length of the message.
abbrev all_but_the_octets : LookupCall → List ℕ × ℕ × ℕ × ℕ × ℕ × ℕ
all_but_the_octets x =
    let c = x.value.within in
    (c.table, c.revision, c.number, length c.message, x.value.tag, x.value.k)

pub number_by_length : RuledOut (SeesOnly all_but_the_octets uint_value accepts_it) lookup
unfolding first behind_tag_2
number_by_length = sees_only all_but_the_octets uint_value accepts_it first behind_tag_2 refl refl refl (eqb-false 42 7 refl)

pub signed_by_length : RuledOut (SeesOnly all_but_the_octets (λ (f : Found). f.signed) accepts_it) lookup
unfolding first_int int_behind_tag_2
signed_by_length = sees_only all_but_the_octets (λ (f : Found). f.signed) accepts_it first_int int_behind_tag_2 refl refl refl (pos_differ 42 7 refl)

pub start_by_length : RuledOut (SeesOnly all_but_the_octets start accepts_it) lookup
unfolding first behind_tag_2
start_by_length = sees_only all_but_the_octets start accepts_it first behind_tag_2 refl refl refl (eqb-false 1 3 refl)

pub last_number_by_length : RuledOut (SeesOnly all_but_the_octets uint_value last_accepts_it) lookup_last
unfolding last last_before_tag_2
last_number_by_length = sees_only all_but_the_octets uint_value last_accepts_it last last_before_tag_2 refl refl refl (eqb-false 7 42 refl)
