-- Which dictionary values the loader can return. proofs/Valid.antt shows that these are the loadable ones.
use Rattle.std.specs.Prelude.{Bool, true, not, ◌&&◌, List, [], ◌∷◌, drop, leb}
use Rattle.table.specs.Valid.{all_zero}
use Rattle.tib_dictionary.specs.Entry.{in_range, has, entries}
use Rattle.tib_dictionary.specs.declared.Entry.{Entry}
use Rattle.tib_dictionary.specs.declared.Dictionary.{Dictionary}

-- Whether every entry is in range, and no fid stands twice.
unfoldable pub all_good : List Entry → Bool
all_good [] = true
all_good (e ∷ es) = in_range e && not (has es e.fid) && all_good es

-- At most 512 entries, each in range, no fid twice, and nothing in the unused words.
unfoldable pub valid : Dictionary → Bool
valid d = leb d.count 512 && all_good (entries d) && all_zero (drop d.count d.words)
