-- The meaning of a tag in a valid table.
use Prim.Native.Nat.{ℕ, ◌≤◌}
use native.Mathlib.Omega.{arith}
use mathlib.Core.Path.{◌≡◌}
use mathlib.Core.Bool.{Bool, true, false, cond, ◌&&◌}
use mathlib.Core.List.{List, [], ◌∷◌, map}
use lib.ListN.{take, drop}
use lib.Dec.{eqb, leb, ltb}
use borrow.Author.Tests.{ltb-true}
use Rattle.table.specs.Entry.{Entry, meaning, entry, find, entries, inner_of}
use Rattle.table.specs.Schema.{schema_of, schema}
use Rattle.table.specs.Load.{in_range}
use Rattle.table.specs.Repeat.{distinct}
use Rattle.table.specs.Valid.{all_in_range, all_zero, valid}
use Rattle.table.specs.declared.Meaning.{Meaning}
use Rattle.table.specs.declared.Meaning.TheVariants.{Raw, Uint, Int, String, Text, Message}
use Rattle.table.specs.declared.Table.{Table}
use Rattle.octets.proofs.Bools.{and_left, and_right}

-- The inner number of an entry in range is at most 15, for every kind.
entry_small : (e : Entry) → in_range e ≡ true → inner_of (meaning e) ≤ 15
unfolding in_range meaning inner_of
entry_small e h = kinds (eqb e.kind 1) (eqb e.kind 2) (eqb e.kind 3) (eqb e.kind 4) (eqb e.kind 5)
    (and_right (ltb e.number 16 && leb 1 e.kind && leb e.kind 5) inner_fits
    (and_left (ltb e.number 16 && leb 1 e.kind && leb e.kind 5 && inner_fits) (ltb e.mark 2) h))
  where
    inner_fits : Bool
    inner_fits = cond (eqb e.kind 5) (ltb e.inner 16) (eqb e.inner 0)

    kinds : (a b c d f : Bool) → cond f (ltb e.inner 16) (eqb e.inner 0) ≡ true
        → inner_of (cond a Uint (cond b Int (cond c String (cond d Text (cond f (Message e.inner) Raw))))) ≤ 15
    kinds true b c d f h = omega arith
    kinds false true c d f h = omega arith
    kinds false false true d f h = omega arith
    kinds false false false true f h = omega arith
    kinds false false false false true h = let k = ltb-true e.inner 16 h in omega arith
    kinds false false false false false h = omega arith

chosen_small : (b : Bool) (k m : Meaning) → inner_of k ≤ 15 → inner_of m ≤ 15 → inner_of (cond b k m) ≤ 15
chosen_small true k m h l = h
chosen_small false k m h l = l

words_small : (ws : List ℕ) (number tag : ℕ) → all_in_range ws ≡ true → inner_of (find (map entry ws) number tag) ≤ 15
unfolding all_in_range find inner_of
words_small [] number tag h = omega arith
words_small (w ∷ ws) number tag h =
    chosen_small (eqb (entry w).number number && eqb (entry w).tag tag) (meaning (entry w)) (find (map entry ws) number tag)
    (entry_small (entry w) (and_left (in_range (entry w)) (all_in_range ws) h))
    (words_small ws number tag (and_right (in_range (entry w)) (all_in_range ws) h))

-- No inner number of a valid table is above 15.
pub inner_small : (revision : ℕ) (t : Table) (number tag : ℕ) → valid t ≡ true → inner_of ((schema revision t).means number tag) ≤ 15
unfolding valid schema schema_of entries
inner_small revision t number tag v =
    let used = take t.count t.words in
    let a = leb t.count 64 in
    let b = all_in_range used in
    words_small used number tag (and_right a b (and_left (a && b) (distinct used) (and_left (a && b && distinct used) (all_zero (drop t.count t.words)) v)))
