-- Which table values the loader can return. proofs/Valid.antt shows that these are the loadable ones.
use Rattle.std.specs.Prelude.{ℕ, Bool, true, ◌&&◌, List, [], ◌∷◌, take, drop, eqb, leb}
use Rattle.table.specs.Entry.{entry}
use Rattle.table.specs.Load.{in_range}
use Rattle.table.specs.Repeat.{distinct}
use Rattle.table.specs.declared.Table.{Table}

-- Whether every word's entry is in range.
unfoldable pub all_in_range : List ℕ → Bool
all_in_range [] = true
all_in_range (w ∷ ws) = in_range (entry w) && all_in_range ws

-- Whether every word is 0.
unfoldable pub all_zero : List ℕ → Bool
all_zero [] = true
all_zero (w ∷ ws) = eqb w 0 && all_zero ws

-- At most 64 entries, each in range, no pair twice, and nothing in the unused words.
unfoldable pub valid : Table → Bool
valid t =
    let used = take t.count t.words in
    leb t.count 64 && all_in_range used && distinct used && all_zero (drop t.count t.words)
