-- Loading a dictionary from octets. A dictionary is a sequence of records. A record is the tag 02, the length 00 05 and an entry of five octets:
-- the fid on two octets, the type on one, the size on two.
use Rattle.std.specs.Prelude.{Result, Ok, Err, ℕ, zero, suc, ◌+◌, ◌-◌, ◌≡◌, Bool, cond, not, ◌&&◌, List, [], ◌∷◌, ◌++◌, map, length, take, drop, replicate, get_or, eqb, leb, ltb}
use Rattle.octets.specs.Number.{big_endian, Octets}
use Rattle.reading.specs.Reading as readings
use Rattle.reading.specs.Reading.{Reading, on_accepted}
use Rattle.reading.specs.Refusals as refusals
use Rattle.reading.specs.declared.Fault.{Fault}
use Rattle.tib_dictionary.specs.Entry.{in_range, has, word_of}
use Rattle.tib_dictionary.specs.declared.Entry.{Entry}
use Rattle.tib_dictionary.specs.declared.Dictionary.{Dictionary}

-- Whether octets begin with a record: the tag, the length, and five octets more.
unfoldable pub formed : List ℕ → Bool
formed s = leb 8 (length s) && eqb (get_or s 0 0) 2 && eqb (get_or s 1 0) 0 && eqb (get_or s 2 0) 5

-- The entry of the record at the front of octets.
unfoldable pub entry_of : List ℕ → Entry
entry_of s = record { fid = big_endian (take 2 (drop 3 s)); kind = get_or s 5 0; size = big_endian (take 2 (drop 6 s)) }

-- Whether an entry may come after these: it is in range, none of them has its fid, and they are fewer than 512.
unfoldable pub continues : List Entry → Entry → Bool
continues es e = in_range e && not (has es e.fid) && ltb (length es) 512

-- Loading from a place on, after these entries: the first faulty record is rejected. `fuel` bounds the number of records.
unfoldable pub load_from : List Entry → ℕ → ℕ → List ℕ → Reading (List Entry)
load_from es zero at s = readings.refused refusals.table at
load_from es (suc fuel) at s =
    let e = entry_of s in
    cond (eqb (length s) 0) (readings.accepted [])
    (cond (formed s && continues es e) (on_accepted (λ (later : List Entry). e ∷ later) (load_from (es ++ (e ∷ [])) fuel (at + 8) (drop 8 s)))
    (readings.refused refusals.table at))

-- The entries of a dictionary's octets, or the refusal of its first faulty record.
unfoldable pub loading : List ℕ → Reading (List Entry)
loading s = load_from [] (suc (length s)) 0 s

-- The dictionary that holds entries.
unfoldable pub dictionary_of : List Entry → Dictionary
dictionary_of es = record { count = length es; words = map word_of es ++ replicate (512 - length es) 0 }

-- The loader's result: a refusal (0 if the dictionary is accepted), the place of the fault, and the dictionary, which is empty after a refusal.
pub record Loaded : Type 0 where
  pub refusal : ℕ
  pub place : ℕ
  pub dictionary : Dictionary

-- The result for a dictionary that is accepted, and for one that is refused.
unfoldable pub accepted : List Entry → Loaded
accepted es = record { refusal = 0; place = 0; dictionary = dictionary_of es }

unfoldable pub refused : ℕ → ℕ → Loaded
refused reason place = record { refusal = reason; place = place; dictionary = dictionary_of [] }

-- The loader's result, by what the function that loads returns.
abbrev pub loaded : Result Dictionary Fault → Loaded
loaded (Ok d) = record { refusal = 0; place = 0; dictionary = d }
loaded (Err f) = record { refusal = refusals.number f.refusal; place = f.place; dictionary = dictionary_of [] }

-- The result of loading octets.
unfoldable pub result : Reading (List Entry) → Loaded
result (readings.accepted es) = accepted es
result (readings.refused reason place) = refused reason place

unfoldable pub load : List ℕ → Loaded
load s = result (loading s)

-- A dictionary value that the loader can return.
unfoldable pub Loadable : Dictionary → Type 0
Loadable d = (s : List ℕ) × Octets s × (load s ≡ record { refusal = 0; place = 0; dictionary = d })
