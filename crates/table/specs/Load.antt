-- Loading a field table from octets. A table is a sequence of records. A record is the tag 01, the length 00 05 and an entry of five octets,
-- or the length 00 06, an entry and its mark. An entry without a mark has the mark 0.
use Rattle.std.specs.Prelude.{Result, Ok, Err, ℕ, zero, suc, ◌+◌, ◌*◌, ◌-◌, ◌/◌, ◌^◌, ◌≡◌, Bool, false, cond, not, ◌&&◌, ◌||◌, List, [], ◌∷◌, ◌++◌, length, take, drop, replicate, get_or, eqb, leb, ltb}
use Rattle.octets.specs.Number.{big_endian, Octets}
use Rattle.reading.specs.Refusals as refusals
use Rattle.reading.specs.declared.Fault.{Fault}
use Rattle.table.specs.Entry.{Entry, entry}
use Rattle.table.specs.declared.Table.{Table}

-- Whether an entry's numbers are in range: message numbers 0 to 15, kinds 1 to 5, inner number 0 to 15 for kind 5, else 0, marks 0 and 1.
unfoldable pub in_range : Entry → Bool
in_range e =
    ltb e.number 16 && leb 1 e.kind && leb e.kind 5 && cond (eqb e.kind 5) (ltb e.inner 16) (eqb e.inner 0) && ltb e.mark 2

-- The length that the record at the front of octets announces, and how many octets it takes.
unfoldable pub announced : List ℕ → ℕ
announced s = big_endian (take 2 (drop 1 s))

unfoldable pub record_size : List ℕ → ℕ
record_size s = cond (eqb (announced s) 6) 9 8

-- The place of the record at i, counted from 0.
unfoldable pub place_at : List ℕ → ℕ → ℕ
place_at s zero = 0
place_at s (suc i) = place_at s i + record_size (drop (place_at s i) s)

-- The octets of the record at i; fewer where the octets end.
unfoldable pub record_at : List ℕ → ℕ → List ℕ
record_at s i =
    let r = drop (place_at s i) s in
    take (record_size r) r

-- A record's entry as a word of a table: its five octets and the mark as one number.
unfoldable pub word_of : List ℕ → ℕ
word_of r = big_endian (take 5 (drop 3 r)) * 2 ^ 8 + get_or r 8 0

unfoldable pub word_at : List ℕ → ℕ → ℕ
word_at s i = word_of (record_at s i)

-- Whether a record has the right tag, the length 5 or 6 and as many octets, and an entry in range.
unfoldable pub well_formed : List ℕ → Bool
well_formed r =
    eqb (get_or r 0 0) 1 && (eqb (announced r) 5 || eqb (announced r) 6) && eqb (length r) (3 + announced r) && in_range (entry (word_of r))

-- The words of the records before the one at n.
unfoldable pub words_before : List ℕ → ℕ → List ℕ
words_before s zero = []
words_before s (suc n) = words_before s n ++ (word_at s n ∷ [])

-- A word's message number and field tag, as one number.
unfoldable pub pair : ℕ → ℕ
pair w = w / 2 ^ 24

-- Whether a pair stands in one of the words.
unfoldable pub seen : ℕ → List ℕ → Bool
seen p [] = false
seen p (w ∷ ws) = eqb (pair w) p || seen p ws

-- Whether the record at i is faulty: not well-formed, or with a pair seen before, or the 65th.
unfoldable pub faulty : List ℕ → ℕ → Bool
faulty s i = not (well_formed (record_at s i)) || seen (pair (word_at s i)) (words_before s i) || leb 64 i

-- The table that holds words.
unfoldable pub table_of : List ℕ → Table
table_of ws = record { count = length ws; words = ws ++ replicate (64 - length ws) 0 }

-- The loader's result: a refusal (0 if the table is accepted), the place of the fault, and the table, which is empty after a refusal.
pub record Loaded : Type 0 where
  pub refusal : ℕ
  pub place : ℕ
  pub table : Table

-- The result for a table that is accepted, and for one whose fault is in the record at a place.
unfoldable pub accepted : List ℕ → Loaded
accepted ws = record { refusal = 0; place = 0; table = table_of ws }

unfoldable pub refused : ℕ → Loaded
refused place = record { refusal = refusals.table; place = place; table = table_of [] }

-- The loader's result, by what the function that loads returns.
abbrev pub loaded : Result Table Fault → Loaded
loaded (Ok t) = record { refusal = 0; place = 0; table = t }
loaded (Err f) = record { refusal = refusals.number f.refusal; place = f.place; table = table_of [] }

-- Loading from the record at i on: the first faulty record is rejected. `fuel` bounds the number of records.
unfoldable pub load_from : ℕ → ℕ → List ℕ → Loaded
load_from zero i s = refused (place_at s i)
load_from (suc fuel) i s =
    let rest = load_from fuel (suc i) s in
    cond (leb (length s) (place_at s i)) (accepted (words_before s i)) (cond (faulty s i) (refused (place_at s i)) rest)

-- The result of loading octets. The 65th record is faulty, so a fuel of 65 is enough.
unfoldable pub load : List ℕ → Loaded
load s = load_from 65 0 s

-- A table value that the loader can return.
unfoldable pub Loadable : Table → Type 0
Loadable t = (s : List ℕ) × Octets s × (load s ≡ record { refusal = 0; place = 0; table = t })
