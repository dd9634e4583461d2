-- Wrong programs in the place of table_index::valid.
use Prim.Native.Nat.{ℕ}
use mathlib.Core.Path.{◌≡◌, refl}
use mathlib.Core.Bool.{true, false}
use mathlib.Core.List.{List, ◌∷◌}
use lib.ListN.{take, get_or, replicate}
use lib.Dec.{T, ltb}
use borrow.Author.Tests.{eqb-false}
use Rattle.table.specs.Entry.{entry}
use Rattle.table.specs.declared.Table.{Table}
use Rattle.wrong_programs.specs.Kinds.{RuledOut, Rejects, Accepts, SeesOnly, always, refusal_of}
use Rattle.wrong_programs.specs.Valid.{ValidCall, valid}
use Rattle.wrong_programs.proofs.RulingOut.{Sample, given, rejects, accepts, sees_only}
use Rattle.wrong_programs.proofs.Computing.{hproto}

-- A table value whose words after the first are 0.
abbrev table : ℕ → ℕ → Table
table count first = record { count = count; words = first ∷ replicate 63 0 }

empty : Sample valid
unfolding hproto
empty = given (table 0 0) true tt refl

one_uint : Sample valid
unfolding hproto
one_uint = given (table 1 0x1010000) true tt refl

one_single : Sample valid
unfolding hproto
one_single = given (table 1 0x1010001) true tt refl

-- The unused word is not 0, or the used one has no kind.
unused_set : Sample valid
unfolding hproto
unused_set = given (table 0 0x1010000) false tt refl

no_kind : Sample valid
unfolding hproto
no_kind = given (table 1 0) false tt refl

-- It rejects every call.
pub rejects_all : RuledOut (Rejects refusal_of always) valid
unfolding empty
rejects_all = rejects refusal_of always empty tt refl

-- It rejects a table with an entry.
abbrev has_entries : ValidCall → Type 0
has_entries x = T (ltb 0 x.value.count)

pub rejects_entries : RuledOut (Rejects refusal_of has_entries) valid
unfolding one_uint
rejects_entries = rejects refusal_of has_entries one_uint tt refl

-- It rejects a table whose first entry is single.
abbrev has_single : ValidCall → Type 0
has_single x = (entry (get_or x.value.words 0 0)).mark ≡ 1

pub rejects_single : RuledOut (Rejects refusal_of has_single) valid
unfolding hproto one_single
rejects_single = rejects refusal_of has_single one_single refl refl

-- It accepts every call.
pub accepts_all : RuledOut (Accepts refusal_of always) valid
unfolding no_kind
accepts_all = accepts refusal_of always no_kind tt (eqb-false 1 0 refl)

-- It does not look at the unused words.
abbrev used : ValidCall → ℕ × List ℕ
used x = (x.value.count, take x.value.count x.value.words)

pub unused_not_seen : RuledOut (SeesOnly used refusal_of always) valid
unfolding empty unused_set
unused_not_seen = sees_only used refusal_of always empty unused_set tt tt refl (eqb-false 0 1 refl)

-- It does not look at the words, or at the count.
pub words_ignored : RuledOut (SeesOnly (λ (x : ValidCall). x.value.count) refusal_of always) valid
unfolding one_uint no_kind
words_ignored = sees_only (λ (x : ValidCall). x.value.count) refusal_of always one_uint no_kind tt tt refl (eqb-false 0 1 refl)

pub count_ignored : RuledOut (SeesOnly (λ (x : ValidCall). x.value.words) refusal_of always) valid
unfolding empty no_kind
count_ignored = sees_only (λ (x : ValidCall). x.value.words) refusal_of always empty no_kind tt tt refl (eqb-false 0 1 refl)
