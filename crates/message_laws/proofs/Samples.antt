-- The samples hold: each side of each equation computes to the same.
use Prim.Native.Nat.{ℕ}
use native.Mathlib.Omega.{arith}
use mathlib.Core.Path.{◌≡◌, refl, sym, ap, subst}
use mathlib.Core.Bool.{true, true≢false}
use mathlib.Core.List.{List, [], ◌∷◌}
use mathlib.Core.Option.{Option, none, some}
use lib.ListN.{length}
use Rattle.octets.proofs.Number.{all_below256, are_octets}
use Rattle.table.specs.Entry.{entries}
use Rattle.table.specs.LeftOut as leaving
use Rattle.table.specs.LeftOut.{LeftOut, has_entry}
use Rattle.table.specs.Load.{load}
use Rattle.message.specs.Cut.{end, joined}
use Rattle.message.specs.Items as items
use Rattle.table.proofs.LeftOut.{left_fewer}
use Rattle.message_calls.proofs.Samples.{checked}
use Rattle.message_laws.specs.Paths.{Field, follow, field_at}
use Rattle.message_laws.specs.OldTables.{Older, Remain}
use Rattle.message_laws.specs.Swapped as swaps
use Rattle.message_laws.specs.Swaps.{values_of}
use Rattle.message_laws.specs.Samples as samples

-- The definitions that the fields of the sample are made of. A proof that unfolds this computes them.
unfoldable computed : Type 0
unfolding checked samples.new_table samples.old_table samples.message samples.long_int samples.read_at samples.field_in samples.field field_at follow joined has_entry
computed = Unit {0}

tables : Older samples.new_table samples.old_table
unfolding computed all_below256
tables =
    record {
      new_octets = are_octets samples.new_table refl;
      old_octets = are_octets samples.old_table refl;
      new_loads = refl;
      old_loads = refl;
      left_out = leaving.stays _ _ _ (leaving.goes _ _ _ (leaving.stays _ _ _ (leaving.goes _ _ _ (leaving.stays _ _ _ (leaving.goes _ _ _ leaving.none)))));
    }

order_kept : (l r : List ℕ) → LeftOut l r → l ≡ 1 ∷ 2 ∷ [] → r ≡ 2 ∷ 1 ∷ [] → ⊥
order_kept l r leaving.none p q = let z : ◌≡◌ {A = ℕ} 0 1 = cc in absurd (omega arith)
order_kept l r (leaving.stays x xs ys s) p q = let z : ◌≡◌ {A = ℕ} 1 2 = cc in absurd (omega arith)
order_kept l r (leaving.goes x xs ys s) p q =
    let one : xs ≡ 2 ∷ [] = cc in
    let few = left_fewer xs ys s in
    let a = ap length one in
    let b = ap length q in
    absurd (omega (arith, few, a, b))

-- The field at a path has an entry in the old table, if there is a field.
unfoldable Known : Option Field → Type 0
Known none = Unit {0}
Known (some f) = has_entry (entries (load samples.old_table).table) f.number f.tag ≡ true

first_remains : Remain (entries (load samples.old_table).table) (samples.read_at samples.new_table) (2 ∷ 0 ∷ [])
unfolding computed Remain Known
first_remains [] back f e k = let z : ◌≡◌ {A = ℕ} 0 1 = cc in absurd (omega arith)
first_remains (i ∷ []) back f e k =
    let p : i ∷ [] ≡ 2 ∷ [] = cc in
    subst Known k (subst (λ (path : List ℕ). Known (samples.read_at samples.new_table path)) (sym p) (refl {a = true}))
first_remains (i ∷ j ∷ []) back f e k =
    let p : i ∷ j ∷ [] ≡ 2 ∷ 0 ∷ [] = cc in
    subst Known k (subst (λ (path : List ℕ). Known (samples.read_at samples.new_table path)) (sym p) (refl {a = true}))
first_remains (i ∷ j ∷ l ∷ front) back f e k = let z : ◌≡◌ {A = ℕ} 0 1 = cc in absurd (omega arith)

second_does_not : Remain (entries (load samples.old_table).table) (samples.read_at samples.new_table) (3 ∷ 0 ∷ []) → ⊥
unfolding computed Remain
second_does_not r = true≢false (sym (r (3 ∷ []) (0 ∷ []) _ refl refl))

pub old_table_sample : samples.OldTableSample
unfolding computed samples.Hold samples.fields samples.sample
old_table_sample =
    record {
      tables = tables;
      new_check = refl;
      old_check = refl;
      fields_hold = (
        refl,
        refl,
        (refl, refl, (refl, refl, (refl, refl, (refl, refl, (refl, refl, (refl, refl, (refl, refl, (refl, refl, (refl, refl, (refl, refl, tt)))))))))),
      );
      order_kept = λ s. order_kept (1 ∷ 2 ∷ []) (2 ∷ 1 ∷ []) s refl refl;
      first_remains = first_remains;
      second_does_not = second_does_not;
      new_refuses = refl;
      old_accepts = refl;
    }

pub swap_sample : samples.SwapSample
unfolding computed samples.inner samples.inner_swapped samples.around values_of swaps.before swaps.prepend swaps.tag_of items.items items.with_tag items.item_tag
swap_sample =
    record {
      octets = refl;
      octets_swapped = refl;
      cut = refl;
      cut_swapped = refl;
      swapped =
          swaps.within (swaps.leaf 1 (0x11 ∷ []) (0x2a ∷ []) ∷ []) 3 (0x36 ∷ []) samples.inner samples.inner_swapped end samples.inner samples.inner_swapped
          (swaps.outermost samples.inner samples.inner_swapped
          (swaps.swapped [] (swaps.leaf 0 (0x01 ∷ []) (0x07 ∷ [])) (swaps.leaf 1 (0x11 ∷ []) (0x41 ∷ [])) _ (λ e. omega arith)));
      check = refl;
      check_swapped = refl;
      tag_0 = refl;
      tag_0_swapped = refl;
      tag_1 = refl;
      tag_1_swapped = refl;
    }
