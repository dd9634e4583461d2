-- Entries of a dictionary (document 02, item 1), and the entry of a fid.
use Rattle.std.specs.Prelude.{ℕ, ◌+◌, ◌*◌, ◌/◌, ◌%◌, ◌^◌, Bool, true, false, cond, ◌&&◌, ◌||◌, List, [], ◌∷◌, map, take, eqb, leb}
use Rattle.std.proofs.Math.Option.{Option, none, some}
use Rattle.tib_dictionary.specs.declared.Entry.{Entry}
use Rattle.tib_dictionary.specs.declared.Dictionary.{Dictionary}

-- Whether an entry's numbers are in range: a fid has 14 bits, types are 0 to 21, a size has 16 bits, and the type 15 has the size 9.
unfoldable pub in_range : Entry → Bool
in_range e = leb e.fid 16383 && leb e.kind 21 && leb e.size 65535 && cond (eqb e.kind 15) (eqb e.size 9) true

-- Whether one of the entries has a fid.
unfoldable pub has : List Entry → ℕ → Bool
has [] fid = false
has (e ∷ es) fid = eqb e.fid fid || has es fid

-- The first entry with a fid, or that there is none.
unfoldable pub find : List Entry → ℕ → Option Entry
find [] fid = none
find (e ∷ es) fid = cond (eqb e.fid fid) (some e) (find es fid)

-- The entry that was found, or an entry of zeros.
unfoldable pub or_zeros : Option Entry → Entry
or_zeros none = record { fid = 0; kind = 0; size = 0 }
or_zeros (some e) = e

-- The first entry with a fid, or an entry of zeros where there is none.
unfoldable pub entry_with : List Entry → ℕ → Entry
entry_with es fid = or_zeros (find es fid)

-- An entry as a word of a dictionary, and the entry in a word.
unfoldable pub word_of : Entry → ℕ
word_of e = e.fid * 2 ^ 24 + e.kind * 2 ^ 16 + e.size

unfoldable pub entry : ℕ → Entry
entry w = record { fid = w / 2 ^ 24; kind = w / 2 ^ 16 % 2 ^ 8; size = w % 2 ^ 16 }

-- The entries of a dictionary.
unfoldable pub entries : Dictionary → List Entry
entries d = map entry (take d.count d.words)
