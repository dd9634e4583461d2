-- Wrong programs in the place of crudvim_shorten.
use Prim.Native.Nat.{ℕ}
use mathlib.Core.Path.{◌≡◌, refl}
use mathlib.Core.Bool.{true}
use mathlib.Core.List.{List, [], ◌∷◌}
use lib.ListN.{get_or}
use lib.ListN as lists
use lib.Dec.{T, leb, ltb}
use borrow.Author.Tests.{eqb-false}
use Rattle.table.specs.Schema.{is_revision}
use Rattle.message_calls.specs.Shorten as shortens
use Rattle.message_calls.specs.declared.Shortened.{Shortened}
use Rattle.message_calls.specs.Calls.{check_octets, shorten_octets}
use Rattle.wrong_programs.specs.Kinds.{RuledOut, Rejects, Accepts, AcceptsSome, Invents, SeesOnly, always, due}
use Rattle.wrong_programs.specs.Check.{CheckInput}
use Rattle.wrong_programs.specs.Shorten.{ShortenInput, ShortenCall, shorten}
use Rattle.wrong_programs.proofs.RulingOut.{Sample, given, rejects, accepts, accepts_some, invents, sees_only}
use Rattle.wrong_programs.proofs.BehindTheCheck.{shorten_octets_checked}
use Rattle.wrong_programs.proofs.Computing.{hproto}
use Rattle.wrong_programs.proofs.Witnesses.{uints, only_marked, asked_under, asked}

abbrev Answer : Type 0
Answer = Shortened × List ℕ

abbrev accepted : ℕ → List ℕ → Answer
accepted n buffer = (record { refusal = 0; place = 0; length = n }, buffer)

abbrev into : CheckInput → List ℕ → ShortenInput
into within out = record { within = within; out = out }

abbrev nines : List ℕ
nines = 9 ∷ 9 ∷ 9 ∷ 9 ∷ []

-- A uint 5 in four octets, which shortens to two.
long : Sample shorten
unfolding hproto
long = given (into (asked uints 0 (0x1d ∷ 0x00 ∷ 0x01 ∷ 0x05 ∷ [])) nines) (accepted 2 (0x11 ∷ 0x05 ∷ 9 ∷ 9 ∷ [])) tt refl

long_into_eights : Sample shorten
unfolding hproto
long_into_eights = given (into (asked uints 0 (0x1d ∷ 0x00 ∷ 0x01 ∷ 0x05 ∷ [])) (8 ∷ 8 ∷ 8 ∷ 8 ∷ [])) (accepted 2 (0x11 ∷ 0x05 ∷ 8 ∷ 8 ∷ [])) tt refl

-- Four octets that are as short as can be.
short : Sample shorten
unfolding hproto
short = given (into (asked uints 0 (0x11 ∷ 0x05 ∷ 0x21 ∷ 0x06 ∷ [])) nines) (accepted 4 (0x11 ∷ 0x05 ∷ 0x21 ∷ 0x06 ∷ [])) tt refl

-- The contents 00 05, or 00 06: as a uint they shorten, raw they do not.
zero_five : Sample shorten
unfolding hproto
zero_five = given (into (asked uints 0 (0x12 ∷ 0x00 ∷ 0x05 ∷ [])) nines) (accepted 2 (0x11 ∷ 0x05 ∷ 9 ∷ 9 ∷ [])) tt refl

zero_six : Sample shorten
unfolding hproto
zero_six = given (into (asked uints 0 (0x12 ∷ 0x00 ∷ 0x06 ∷ [])) nines) (accepted 2 (0x11 ∷ 0x06 ∷ 9 ∷ 9 ∷ [])) tt refl

raw : Sample shorten
unfolding hproto
raw = given (into (asked [] 0 (0x12 ∷ 0x00 ∷ 0x05 ∷ [])) nines) (accepted 3 (0x12 ∷ 0x00 ∷ 0x05 ∷ 9 ∷ [])) tt refl

under_number_1 : Sample shorten
unfolding hproto
under_number_1 = given (into (asked uints 1 (0x12 ∷ 0x00 ∷ 0x05 ∷ [])) nines) (accepted 3 (0x12 ∷ 0x00 ∷ 0x05 ∷ 9 ∷ [])) tt refl

past_the_end_lem : Sample shorten
unfolding hproto
past_the_end_lem = given (into (asked [] 0 (0x11 ∷ [])) nines) (shortens.refusal 4 0, nines) tt refl

no_room_lem : Sample shorten
unfolding hproto
no_room_lem = given (into (asked [] 0 (0x10 ∷ [])) []) (shortens.refusal 9 0, []) tt refl

-- Two fields with the tag 1, which is single, under both revisions.
abbrev two : ℕ → ShortenInput
two revision = into (asked_under revision (only_marked 1 1) 0 (0x10 ∷ 0x10 ∷ [])) nines

repeated : Sample shorten
unfolding hproto
repeated = given (two 2) (shortens.refusal 20 1, nines) tt refl

under_1 : Sample shorten
unfolding hproto
under_1 = given (two 1) (accepted 2 (0x10 ∷ 0x10 ∷ 9 ∷ 9 ∷ [])) tt refl

abbrev refusal : Answer → ℕ
refusal a = a.0.refusal

abbrev length : Answer → ℕ
length a = a.0.length

abbrev octet : ℕ → Answer → ℕ
octet i a = get_or a.1 i 0

abbrev message : ShortenCall → List ℕ
message x = x.value.within.message

abbrev size : ShortenCall → ℕ
size x = lists.length (message x)

-- The contract accepts the call.
abbrev accepts_it : ShortenCall → Type 0
accepts_it = due shorten refusal 0

-- It rejects every call.
pub rejects_all : RuledOut (Rejects refusal always) shorten
unfolding long
rejects_all = rejects refusal always long tt refl

-- It rejects a message whose short form fills the second buffer.
abbrev fills : ShortenCall → Type 0
fills x = (shorten x).0.length ≡ lists.length x.value.out

pub rejects_full_buffer : RuledOut (Rejects refusal fills) shorten
unfolding short
rejects_full_buffer = rejects refusal fills short refl refl

-- It accepts every call, or at least contents past the end, or a message for which there is no room.
pub accepts_all : RuledOut (Accepts refusal (due shorten refusal 4)) shorten
unfolding past_the_end_lem
accepts_all = accepts refusal (due shorten refusal 4) past_the_end_lem refl (eqb-false 4 0 refl)

pub accepts_without_room : RuledOut (Accepts refusal (due shorten refusal 9)) shorten
unfolding no_room_lem
accepts_without_room = accepts refusal (due shorten refusal 9) no_room_lem refl (eqb-false 9 0 refl)

-- It accepts a message in which nothing but a repeat of a single field is wrong.
abbrev only_repeats : ShortenCall → Type 0
only_repeats x =
    let c = x.value.within in
    due shorten refusal 20 x × ((shorten_octets c.table 1 c.number c.message x.value.out).refusal ≡ 0)

pub accepts_repeats : RuledOut (Accepts refusal only_repeats) shorten
unfolding hproto repeated
accepts_repeats = accepts refusal only_repeats repeated (refl, refl) (eqb-false 20 0 refl)

-- It accepts what the check rejects, such as a repeat or another revision. One such call is enough.
abbrev check_rejects_it : ShortenCall → Type 0
check_rejects_it x = let c = x.value.within in (check_octets c.table c.revision c.number c.message).refusal ≡ 0 → ⊥

pub accepts_rejected : RuledOut (AcceptsSome refusal check_rejects_it) shorten
unfolding shorten
accepts_rejected = accepts_some refusal check_rejects_it
    (λ x ne e.
    let c = x.value.within in
    ne (shorten_octets_checked c.table c.revision c.number c.message x.value.out e))

-- It copies its input: where there are octets to copy and room for them, the first in the buffer is that of the message.
abbrev can_be_copied : ShortenCall → Type 0
can_be_copied x = accepts_it x × T (ltb 0 (size x)) × T (leb (size x) (lists.length x.value.out))

pub copies_its_input : RuledOut (Invents (octet 0) (λ (x : ShortenCall). get_or (message x) 0 0) can_be_copied) shorten
unfolding long
copies_its_input = invents (octet 0) (λ (x : ShortenCall). get_or (message x) 0 0) can_be_copied long (refl, tt, tt) (eqb-false 0x11 0x1d refl)

-- The length that it answers is that of the message, or is made from it.
abbrev all_but_the_octets : ShortenCall → List ℕ × ℕ × ℕ × ℕ × List ℕ
all_but_the_octets x = (x.value.within.table, x.value.within.revision, x.value.within.number, size x, x.value.out)

pub length_by_length : RuledOut (SeesOnly all_but_the_octets length accepts_it) shorten
unfolding long short
length_by_length = sees_only all_but_the_octets length accepts_it long short refl refl refl (eqb-false 2 4 refl)

-- It stores nothing.
pub stores_nothing : RuledOut (Invents (octet 0) (λ (x : ShortenCall). get_or x.value.out 0 0) accepts_it) shorten
unfolding long
stores_nothing = invents (octet 0) (λ (x : ShortenCall). get_or x.value.out 0 0) accepts_it long refl (eqb-false 0x11 9 refl)

-- It does not leave the rest of the second buffer: of what stands in that it sees only the length.
abbrev within_and_room : ShortenCall → CheckInput × ℕ
within_and_room x = (x.value.within, lists.length x.value.out)

pub rest_not_left : RuledOut (SeesOnly within_and_room (octet 3) accepts_it) shorten
unfolding long long_into_eights
rest_not_left = sees_only within_and_room (octet 3) accepts_it long long_into_eights refl refl refl (eqb-false 9 8 refl)

-- It writes the same octets each time, or the same for each length of the message.
pub octets_by_length : RuledOut (SeesOnly all_but_the_octets (octet 1) accepts_it) shorten
unfolding zero_five zero_six
octets_by_length = sees_only all_but_the_octets (octet 1) accepts_it zero_five zero_six refl refl refl (eqb-false 5 6 refl)

-- It shortens every field as if the table, or the message number, were the same each time.
abbrev all_but_the_table : ShortenCall → ℕ × ℕ × List ℕ × List ℕ
all_but_the_table x = (x.value.within.revision, x.value.within.number, message x, x.value.out)

pub table_ignored : RuledOut (SeesOnly all_but_the_table (octet 0) accepts_it) shorten
unfolding zero_five raw
table_ignored = sees_only all_but_the_table (octet 0) accepts_it zero_five raw refl refl refl (eqb-false 0x11 0x12 refl)

abbrev all_but_the_number : ShortenCall → List ℕ × ℕ × List ℕ × List ℕ
all_but_the_number x = (x.value.within.table, x.value.within.revision, message x, x.value.out)

pub number_ignored : RuledOut (SeesOnly all_but_the_number (octet 0) accepts_it) shorten
unfolding zero_five under_number_1
number_ignored = sees_only all_but_the_number (octet 0) accepts_it zero_five under_number_1 refl refl refl (eqb-false 0x11 0x12 refl)

-- It does not look at the revision.
abbrev has_revision : ShortenCall → Type 0
has_revision x = is_revision x.value.within.revision ≡ true

abbrev all_but_the_revision : ShortenCall → List ℕ × ℕ × List ℕ × List ℕ
all_but_the_revision x = (x.value.within.table, x.value.within.number, message x, x.value.out)

pub revision_ignored : RuledOut (SeesOnly all_but_the_revision refusal has_revision) shorten
unfolding hproto repeated under_1
revision_ignored = sees_only all_but_the_revision refusal has_revision repeated under_1 refl refl refl (eqb-false 20 0 refl)
