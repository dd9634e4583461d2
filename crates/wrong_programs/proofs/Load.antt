-- Wrong programs in the place of the loader.
use Prim.Native.Nat.{ℕ, ◌%◌}
use mathlib.Core.Path.{◌≡◌, refl}
use mathlib.Core.List.{List, [], ◌∷◌, ◌++◌}
use lib.ListN.{length, take, get_or}
use lib.Dec.{T, ltb}
use borrow.Author.Tests.{eqb-false}
use Rattle.table.specs.Load as loads
use Rattle.table.specs.Load.{Loaded}
use Rattle.wrong_programs.specs.Kinds.{RuledOut, Rejects, Accepts, Invents, SeesOnly, always, due}
use Rattle.wrong_programs.specs.Load.{LoadCall, load}
use Rattle.wrong_programs.proofs.RulingOut.{Sample, given, rejects, accepts, invents, sees_only}
use Rattle.wrong_programs.proofs.Computing.{hproto}
use Rattle.wrong_programs.proofs.Witnesses.{uints, messages, only_marked}

one_uint : Sample load
unfolding hproto
one_uint = given uints (loads.accepted (0x1010000 ∷ [])) tt refl

one_message : Sample load
unfolding hproto
one_message = given messages (loads.accepted (0x1050000 ∷ [])) tt refl

-- A record twice.
repeated : Sample load
unfolding hproto
repeated = given (uints ++ uints) (loads.refused 8) tt refl

-- Records of length 6, with the marks 1, 0 and 2, and one of them twice.
abbrev single : List ℕ
single = only_marked 1 1

one_single : Sample load
unfolding hproto
one_single = given single (loads.accepted (0x1010001 ∷ [])) tt refl

one_many : Sample load
unfolding hproto
one_many = given (only_marked 1 0) (loads.accepted (0x1010000 ∷ [])) tt refl

mark_2 : Sample load
unfolding hproto
mark_2 = given (only_marked 1 2) (loads.refused 0) tt refl

single_repeated : Sample load
unfolding hproto
single_repeated = given (single ++ single) (loads.refused 9) tt refl

abbrev refusal : Loaded → ℕ
refusal l = l.refusal

abbrev accepts_it : LoadCall → Type 0
accepts_it = due load refusal 0

-- It rejects every call.
pub rejects_all : RuledOut (Rejects refusal always) load
unfolding one_uint
rejects_all = rejects refusal always one_uint tt refl

-- It rejects an entry for a message of the number 0.
abbrev first_holds_message_0 : LoadCall → Type 0
first_holds_message_0 x = loads.word_at x.value 0 % 0x1000000 ≡ 0x50000

pub rejects_message_0 : RuledOut (Rejects refusal first_holds_message_0) load
unfolding one_message
rejects_message_0 = rejects refusal first_holds_message_0 one_message refl refl

-- It accepts every call.
pub accepts_all : RuledOut (Accepts refusal always) load
unfolding repeated
accepts_all = accepts refusal always repeated tt (eqb-false 2 0 refl)

-- The place of every fault is 0.
pub place_dropped : RuledOut (Invents (λ (l : Loaded). l.place) (λ (x : LoadCall). 0) always) load
unfolding repeated
place_dropped = invents (λ (l : Loaded). l.place) (λ (x : LoadCall). 0) always repeated tt (eqb-false 8 0 refl)

-- It gives a table with no entries.
abbrev count : Loaded → ℕ
count l = l.table.count

pub records_dropped : RuledOut (Invents count (λ (x : LoadCall). 0) accepts_it) load
unfolding one_uint
records_dropped = invents count (λ (x : LoadCall). 0) accepts_it one_uint refl (eqb-false 1 0 refl)

-- It gives the same words each time, or the same for each count of records.
abbrev size : LoadCall → ℕ
size x = length x.value

abbrev first_word : Loaded → ℕ
first_word l = get_or l.table.words 0 0

pub words_by_length : RuledOut (SeesOnly size first_word accepts_it) load
unfolding one_uint one_message
words_by_length = sees_only size first_word accepts_it one_uint one_message refl refl refl (eqb-false 0x1010000 0x1050000 refl)

-- ---- the mark

-- It rejects every record of length 6, whatever the mark.
abbrev has_length_6 : LoadCall → Type 0
has_length_6 x = loads.announced x.value ≡ 6

pub rejects_length_6 : RuledOut (Rejects refusal has_length_6) load
unfolding hproto one_single
rejects_length_6 = rejects refusal has_length_6 one_single refl refl

-- It accepts marks over 1.
abbrev has_mark_over_1 : LoadCall → Type 0
has_mark_over_1 x = (mark : ℕ) × (x.value ≡ only_marked 1 mark) × T (ltb 1 mark)

pub accepts_marks_over_1 : RuledOut (Accepts refusal has_mark_over_1) load
unfolding mark_2
accepts_marks_over_1 = accepts refusal has_mark_over_1 mark_2 (2, refl, tt) (eqb-false 2 0 refl)

-- The first entry has the same mark each time, or one that is made from the octets before it.
abbrev first_mark : Loaded → ℕ
first_mark l = first_word l % 0x100

abbrev before_the_mark : LoadCall → List ℕ
before_the_mark x = take 8 x.value

pub mark_dropped : RuledOut (SeesOnly before_the_mark first_mark accepts_it) load
unfolding one_single one_many
mark_dropped = sees_only before_the_mark first_mark accepts_it one_single one_many refl refl refl (eqb-false 1 0 refl)

-- It takes a record of length 5 as single.
abbrev has_length_5 : LoadCall → Type 0
has_length_5 x = accepts_it x × (loads.announced x.value ≡ 5)

pub length_5_as_single : RuledOut (Invents first_mark (λ (x : LoadCall). 1) has_length_5) load
unfolding hproto one_uint
length_5_as_single = invents first_mark (λ (x : LoadCall). 1) has_length_5 one_uint (refl, refl) (eqb-false 0 1 refl)

-- It takes each record as eight octets long: the place of the second is 8.
abbrev has_single_twice : LoadCall → Type 0
has_single_twice x = x.value ≡ single ++ single

pub place_by_eights : RuledOut (Invents (λ (l : Loaded). l.place) (λ (x : LoadCall). 8) has_single_twice) load
unfolding single_repeated
place_by_eights = invents (λ (l : Loaded). l.place) (λ (x : LoadCall). 8) has_single_twice single_repeated refl (eqb-false 9 8 refl)
