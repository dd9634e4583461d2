-- What a search for an entry returns.
use Prim.Native.Nat.{ℕ, zero, suc, ◌+◌, ◌*◌, ◌/◌}
use native.Mathlib.Omega.{arith}
use mathlib.Core.Path.{◌≡◌, refl, ap, ◌∙◌}
use mathlib.Core.Bool.{Bool, true, false, cond}
use mathlib.Core.List.{List, [], ◌∷◌, map}
use mathlib.Core.Option.{Option, none, some}
use lib.ListN.{length, drop}
use lib.Seq.{drop-drop}
use lib.Dec.{eqb}
use Rattle.std.specs.Prelude.{Some, unwrap_or}
use Rattle.std.specs.Prelude as std
use Rattle.std.specs.List.{range_with_len}
use Rattle.tib_dictionary.specs.Entry.{find, or_zeros, entry_with}
use Rattle.tib_dictionary.specs.Load.{entry_of}
use Rattle.tib_dictionary.specs.internal.Search.{records_of, records_at, first_with}
use Rattle.tib_dictionary.specs.declared.Entry.{Entry}

-- An entry, or none, in the library's form.
found : Option Entry → std.Option Entry
found none = std.None
found (some e) = std.Some e

first_found : (fid : ℕ) (es : List Entry) → first_with fid es ≡ found (find es fid)
unfolding find found
first_found fid [] = refl
first_found fid (e ∷ es) = rw (first_found fid es) (go (eqb e.fid fid))
  where
    go : (t : Bool) → cond t (Some e) (found (find es fid)) ≡ found (cond t (some e) (find es fid))
    go true = refl
    go false = refl

-- The entry of a fid that the entries have.
pub first_known : (fid : ℕ) (es : List Entry) (e : Entry) → find es fid ≡ some e → (first_with fid es ≡ Some e) × (e ≡ entry_with es fid)
unfolding entry_with or_zeros found
first_known fid es e h = (rw (first_found fid es, h) refl, rw h refl)

-- The records, each read at its offset, are those that are read one after the other.
records_from : (n a : ℕ) (s : List ℕ) → map (λ (i : ℕ). entry_of (drop (i * 8) s)) (range_with_len a n) ≡ records_of n (drop (a * 8) s)
unfolding records_of
records_from zero a s = refl
records_from (suc n) a s =
    let k : (a + 1) * 8 ≡ a * 8 + 8 = omega arith in
    ap (λ (es : List Entry). entry_of (drop (a * 8) s) ∷ es) (records_from n (a + 1) s ∙ rw (k, drop-drop 8 (a * 8) s) refl)

pub records_at_is : (s : List ℕ) → records_at s ≡ records_of (length s / 8) s
records_at_is s = records_from (length s / 8) 0 s
