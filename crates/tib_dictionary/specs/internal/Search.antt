-- The records of octets, as the search for an entry reads them, and what it returns.
use Rattle.std.specs.Prelude.{ℕ, zero, suc, ◌*◌, ◌/◌, Option, List, [], ◌∷◌, map, length, drop, eqb}
use Rattle.std.specs.List as lists
use Rattle.tib_dictionary.specs.Load.{entry_of}
use Rattle.tib_dictionary.specs.declared.Entry.{Entry}

-- The entries of the first n records of octets.
unfoldable pub records_of : ℕ → List ℕ → List Entry
records_of zero s = []
records_of (suc n) s = entry_of s ∷ records_of n (drop 8 s)

-- The entries of all records of octets, each read at its offset: the same as `records_of (length s / 8) s`.
abbrev pub records_at : List ℕ → List Entry
records_at s = map (λ n. entry_of (drop (n * 8) s)) (lists.range_with_len 0 (length s / 8))

-- The first entry with a fid, as the library's search returns it.
abbrev pub first_with : ℕ → List Entry → Option Entry
first_with fid es = lists.find (λ e. eqb e.fid fid) es
