-- Laws of schemas.
use Prim.Native.Nat.{ℕ, ◌/◌, ◌%◌, ◌≤◌}
use native.Mathlib.Omega.{arith}
use mathlib.Core.Path.{◌≡◌, refl, sym, ap, ap₂, fun_ext}
use mathlib.Core.Bool.{Bool, true, false, cond, ◌&&◌, and-false}
use mathlib.Core.List.{List, [], ◌∷◌, map}
use lib.Dec.{eqb}
use borrow.Author.Tests.{ne_eqb}
use Rattle.table.specs.Entry.{Entry, entry, find, marked_single}
use Rattle.table.specs.Load.{table_of}
use Rattle.table.specs.Schema.{Schema, schema_of, schema}
use Rattle.table.specs.declared.Meaning.{Meaning}
use Rattle.table.specs.declared.Meaning.TheVariants.{Raw}
use Rattle.table.proofs.Records.{loaded_entries}

-- Schemas that give every tag the same kind, and in which the same tags are single, are equal.
pub same_schema : (a b : Schema) → ((n tag : ℕ) → a.means n tag ≡ b.means n tag) → ((n tag : ℕ) → a.single n tag ≡ b.single n tag) → a ≡ b
same_schema a b h k =
    ap₂ (λ (f : ℕ → ℕ → Meaning) (g : ℕ → ℕ → Bool). record { means = f; single = g }) (fun_ext (λ n. fun_ext (h n))) (fun_ext (λ n. fun_ext (k n)))

-- Every entry has the mark 0, as those of records of length 5 do.
unfoldable pub Unmarked : List Entry → Type 0
Unmarked [] = Unit {0}
Unmarked (e ∷ es) = (e.mark ≡ 0) × Unmarked es

-- Then no tag is single,
none_single : (es : List Entry) → Unmarked es → (n tag : ℕ) → marked_single es n tag ≡ false
unfolding marked_single Unmarked
none_single [] u n tag = refl
none_single (e ∷ es) u n tag = go (eqb e.number n && eqb e.tag tag) (none_single es u.1 n tag)
  where
    go : (b : Bool) → marked_single es n tag ≡ false → cond b (eqb e.mark 1) (marked_single es n tag) ≡ false
    go true rest = rw u.0 refl
    go false rest = rest

-- and both revisions give the same schema.
pub revisions_alike : (es : List Entry) → Unmarked es → schema_of 1 es ≡ schema_of 2 es
unfolding schema_of
revisions_alike es u = same_schema (schema_of 1 es) (schema_of 2 es) (λ n tag. refl) (λ n tag. sym (none_single es u n tag))

-- The schema of the table that holds words is that of the words.
pub words_schema : (revision : ℕ) (ws : List ℕ) → schema revision (table_of ws) ≡ schema_of revision (map entry ws)
unfolding schema
words_schema revision ws = ap (schema_of revision) (loaded_entries ws)

-- A tag over 65,535 is in no word,
no_entry : (w n t : ℕ) → 65536 ≤ t → eqb (entry w).number n && eqb (entry w).tag t ≡ false
unfolding entry
no_entry w n t h = rw (ne_eqb (w / 16777216 % 65536) t (λ q. omega arith)) (and-false (eqb (w / 1099511627776) n))

-- so it is raw and not marked single.
pub find_large : (ws : List ℕ) (n t : ℕ) → 65536 ≤ t → find (map entry ws) n t ≡ Raw
unfolding find
find_large [] n t h = refl
find_large (w ∷ ws) n t h = rw (no_entry w n t h) (find_large ws n t h)

pub single_large : (ws : List ℕ) (n t : ℕ) → 65536 ≤ t → marked_single (map entry ws) n t ≡ false
unfolding marked_single
single_large [] n t h = refl
single_large (w ∷ ws) n t h = rw (no_entry w n t h) (single_large ws n t h)
