-- Wrong programs in the place of the loader of dictionaries.
use Prim.Native.Nat.{ℕ}
use mathlib.Core.Path.{◌≡◌, refl}
use mathlib.Core.List.{List, [], ◌∷◌, ◌++◌}
use borrow.Author.Tests.{eqb-false}
use lib.ListN.{length, get_or}
use Rattle.tib_dictionary.specs.Load as loads
use Rattle.tib_dictionary.specs.declared.Entry.{Entry}
use Rattle.tib_dictionary.specs.Load.{Loaded}
use Rattle.wrong_programs.specs.Kinds.{RuledOut, Rejects, Accepts, Invents, SeesOnly, always, due}
use Rattle.wrong_programs.specs.Qform.{LoadCall, load}
use Rattle.wrong_programs.proofs.RulingOut.{Sample, given, rejects, accepts, invents, sees_only}
use Rattle.wrong_programs.proofs.Computing.{qform}
use Rattle.wrong_programs.proofs.QformMessages.{entry}

abbrev one_entry : ℕ → ℕ → ℕ → List Entry
one_entry fid type size = record { fid = fid; kind = type; size = size } ∷ []

one : Sample load
unfolding qform entry
one = given (entry 1 2 3) (loads.accepted (one_entry 1 2 3)) tt refl

another : Sample load
unfolding qform entry
another = given (entry 1 2 0) (loads.accepted (one_entry 1 2 0)) tt refl

-- The type 15 has the size 9, and no other.
pub grocery : Sample load
unfolding qform entry
grocery = given (entry 1 15 9) (loads.accepted (one_entry 1 15 9)) tt refl

pub short_grocery : Sample load
unfolding qform entry
short_grocery = given (entry 1 15 8) (loads.refused 2 0) tt refl

pub repeated : Sample load
unfolding qform entry
repeated = given (entry 1 2 3 ++ entry 1 1 4) (loads.refused 2 8) tt refl

-- A record of a field table.
pub table_record : Sample load
unfolding qform
table_record = given (1 ∷ 0 ∷ 5 ∷ 0 ∷ 0 ∷ 1 ∷ 1 ∷ 0 ∷ []) (loads.refused 2 0) tt refl

-- The largest fid and the largest type, and the numbers after them; a record of length 6; and one that is cut.
pub last_fid : Sample load
unfolding qform
last_fid = given (2 ∷ 0 ∷ 5 ∷ 0x3f ∷ 0xff ∷ 21 ∷ 0xff ∷ 0xff ∷ []) (loads.accepted (one_entry 16383 21 65535)) tt refl

pub fid_16384 : Sample load
unfolding qform
fid_16384 = given (2 ∷ 0 ∷ 5 ∷ 0x40 ∷ 0 ∷ 1 ∷ 0 ∷ 4 ∷ []) (loads.refused 2 0) tt refl

pub type_22 : Sample load
unfolding qform entry
type_22 = given (entry 1 22 4) (loads.refused 2 0) tt refl

pub length_6 : Sample load
unfolding qform
length_6 = given (2 ∷ 0 ∷ 6 ∷ 0 ∷ 1 ∷ 1 ∷ 0 ∷ 4 ∷ 0 ∷ []) (loads.refused 2 0) tt refl

pub cut_record : Sample load
unfolding qform entry
cut_record = given (entry 1 2 3 ++ (2 ∷ 0 ∷ 5 ∷ 0 ∷ 2 ∷ 1 ∷ 0 ∷ [])) (loads.refused 2 8) tt refl

abbrev refusal : Loaded → ℕ
refusal l = l.refusal

abbrev accepts_it : LoadCall → Type 0
accepts_it = due load refusal 0

abbrev this : Sample load → LoadCall → Type 0
this sample x = x ≡ sample.call

-- It rejects every call.
pub rejects_all : RuledOut (Rejects refusal always) load
unfolding one
rejects_all = rejects refusal always one tt refl

-- It accepts every call.
pub accepts_all : RuledOut (Accepts refusal always) load
unfolding repeated
accepts_all = accepts refusal always repeated tt (eqb-false 2 0 refl)

-- The place of every fault is 0.
pub place_dropped : RuledOut (Invents (λ (l : Loaded). l.place) (λ (x : LoadCall). 0) always) load
unfolding repeated
place_dropped = invents (λ (l : Loaded). l.place) (λ (x : LoadCall). 0) always repeated tt (eqb-false 8 0 refl)

-- The type 15 has nine octets at most.
pub grocery_at_most_9 : RuledOut (Accepts refusal (this short_grocery)) load
unfolding short_grocery
grocery_at_most_9 = accepts refusal (this short_grocery) short_grocery refl (eqb-false 2 0 refl)

-- It rejects the type 15.
pub rejects_grocery : RuledOut (Rejects refusal (this grocery)) load
unfolding grocery
rejects_grocery = rejects refusal (this grocery) grocery refl refl

-- It rejects the largest fid, type and size.
pub rejects_limits : RuledOut (Rejects refusal (this last_fid)) load
unfolding last_fid
rejects_limits = rejects refusal (this last_fid) last_fid refl refl

-- It takes the fid 16384, the type 22, a record of length 6, or a record that is cut.
pub fid_16384_taken : RuledOut (Accepts refusal (this fid_16384)) load
unfolding fid_16384
fid_16384_taken = accepts refusal (this fid_16384) fid_16384 refl (eqb-false 2 0 refl)

pub type_22_taken : RuledOut (Accepts refusal (this type_22)) load
unfolding type_22
type_22_taken = accepts refusal (this type_22) type_22 refl (eqb-false 2 0 refl)

pub length_6_taken : RuledOut (Accepts refusal (this length_6)) load
unfolding length_6
length_6_taken = accepts refusal (this length_6) length_6 refl (eqb-false 2 0 refl)

pub cut_record_taken : RuledOut (Accepts refusal (this cut_record)) load
unfolding cut_record
cut_record_taken = accepts refusal (this cut_record) cut_record refl (eqb-false 2 0 refl)

-- It takes a fid twice.
pub repeat_taken : RuledOut (Accepts refusal (this repeated)) load
unfolding repeated
repeat_taken = accepts refusal (this repeated) repeated refl (eqb-false 2 0 refl)

-- It takes a record of a field table.
pub table_record_taken : RuledOut (Accepts refusal (this table_record)) load
unfolding table_record
table_record_taken = accepts refusal (this table_record) table_record refl (eqb-false 2 0 refl)

-- It gives the same words for each count of records.
abbrev size : LoadCall → ℕ
size x = length x.value

abbrev first_word : Loaded → ℕ
first_word l = get_or l.dictionary.words 0 0

pub words_by_length : RuledOut (SeesOnly size first_word accepts_it) load
unfolding one another
words_by_length = sees_only size first_word accepts_it one another refl refl refl (eqb-false 0x1020003 0x1020000 refl)
