-- What `field_octets` finds, by the step of the reading: the cells of a dictionary say what its entries say.
use Prim.Native.Nat.{ℕ, ◌+◌, ◌*◌, ◌≤◌, ◌<◌}
use native.Mathlib.Omega.{arith}
use mathlib.Core.Path.{◌≡◌, refl, ap, ◌∙◌}
use mathlib.Core.Bool.{Bool, true, false, cond}
use mathlib.Core.List.{List, [], ◌∷◌}
use mathlib.Core.Option.{Option, none, some}
use lib.ListN.{length, get_or, take, drop, length-drop, take-append-drop}
use lib.Dec.{eqb, ltb}
use borrow.Author.Tests.{ltb-true, ltb-false, lt-ltb, le-ltb, eqb-false, ne_eqb}
use Rattle.octets.specs.Number.{Octets}
use Rattle.octets.proofs.Number.{octets_after}
use Rattle.tib_dictionary.specs.Entry.{find}
use Rattle.tib_dictionary.specs.internal.Cells.{cell_for, cell_of, CellsOf}
use Rattle.tib_dictionary.specs.declared.Entry.{Entry}
use Rattle.tib_qform_field.specs.Layout.{flagged, fid}
use Rattle.tib_field.specs.Steps.{Step, Fault, Over}
use Rattle.tib_qform_field.specs.Reading.{data_octets, from_data, next_field, total}
use Rattle.tib_field.specs.internal.Measured.{measured}
use Rattle.tib_qform_field.specs.internal.Octets.{by_half, octets_by}
use Rattle.tib_qform_field.proofs.Tests.{fid_small}

-- ---- whatever the cells hold

-- A step that is no refusal.
abbrev Inside : Step ℕ → ℕ → Type 0
Inside p remaining = (n : ℕ) → Over n ≡ p → (2 ≤ n) × (n ≤ remaining)

refused_inside : (k remaining : ℕ) → Inside (Fault k) remaining
refused_inside k remaining n e = let z : ◌≡◌ {A = ℕ} 0 1 = cc in absurd (omega arith)

half_inside : (half remaining : ℕ) → Inside (by_half half remaining) remaining
unfolding by_half
half_inside half remaining = go (eqb half 0) refl
  where
    fits : (half ≡ 0 → ⊥) → (t : Bool) → ltb remaining (half * 2) ≡ t → Inside (cond t (Fault 4) (Over (half * 2))) remaining
    fits z true e n h = refused_inside 4 remaining n h
    fits z false e n h = let l = ltb-false remaining (half * 2) e in let m : n ≡ half * 2 = cc in (omega arith, omega arith)

    go : (t : Bool) → eqb half 0 ≡ t → Inside (cond t (Fault 19) (cond (ltb remaining (half * 2)) (Fault 4) (Over (half * 2)))) remaining
    go true e = refused_inside 19 remaining
    go false e = fits (eqb-false half 0 e) (ltb remaining (half * 2)) refl

octets_inside : (cells s : List ℕ) → 0 < length s → Inside (octets_by cells s) (length s)
unfolding octets_by
octets_inside cells [] l n h = absurd (omega arith)
octets_inside cells (high ∷ []) l n h = refused_inside 3 1 n h
octets_inside cells (high ∷ low ∷ s) l n h = let r = go (flagged high) n h in let m = r.1 in (r.0, omega arith)
  where
    go : (t : Bool) → Inside (cond t (by_half (get_or cells (fid high low) 0) (2 + length s)) (Fault 16)) (2 + length s)
    go true = half_inside (get_or cells (fid high low) 0) (2 + length s)
    go false = refused_inside 16 (2 + length s)

-- A field that is measured has two octets or more, and lies within the message.
pub field_inside : (cells s : List ℕ) (i n : ℕ) → Over n ≡ octets_by cells (drop i s) → i < length s → (2 ≤ n) × (i + n ≤ length s)
field_inside cells s i n e more =
    let l = length-drop i s in
    let r = octets_inside cells (drop i s) (omega arith) n e in
    let a = r.0 in
    let b = r.1 in
    (omega arith, omega arith)

-- ---- where the cells are those of entries

-- The cell of an entry is half the octets of its fields.
cell_total : (e : Entry) → cell_for e * 2 ≡ total e
unfolding cell_for total data_octets
cell_total e = omega arith

half_step : (o : Option Entry) (s : List ℕ) → by_half (cell_of o) (2 + length s) ≡ measured total (from_data o s)
unfolding by_half cell_of cell_for measured from_data total data_octets
half_step none s = refl
half_step (some e) s = go (ltb (length s) (data_octets e)) refl
  where
    some_octets : eqb (cell_for e) 0 ≡ false
    some_octets = ne_eqb (cell_for e) 0 (omega arith)

    go : (t : Bool) → ltb (length s) (data_octets e) ≡ t → by_half (cell_for e) (2 + length s) ≡ measured total (cond t (Fault 4) (Over e))
    go true h =
        let c = cell_total e in
        let l = ltb-true (length s) (data_octets e) h in
        rw (some_octets, lt-ltb (2 + length s) (cell_for e * 2) (omega arith))
    go false h =
        let c = cell_total e in
        let l = ltb-false (length s) (data_octets e) h in
        rw (some_octets, le-ltb (2 + length s) (cell_for e * 2) (omega arith)) (ap (λ (n : ℕ). Over n) c)

module _ (es : List Entry) (cells : List ℕ) (noted : CellsOf es cells) where
  pub octets_are : (s : List ℕ) → Octets s → octets_by cells s ≡ measured total (next_field es s)
  unfolding CellsOf Octets octets_by measured next_field
  octets_are [] o = refl
  octets_are (high ∷ []) o = refl
  octets_are (high ∷ low ∷ s) o = go (flagged high)
    where
      go : (t : Bool) → cond t (by_half (get_or cells (fid high low) 0) (2 + length s)) (Fault 16)
          ≡ measured total (cond t (from_data (find es (fid high low)) s) (Fault 16))
      go true = rw (noted (fid high low) (fid_small high low o.1.0)) (half_step (find es (fid high low)) s)
      go false = refl

  -- The step at an offset.
  module _ (s : List ℕ) (o : Octets s) (i : ℕ) where
    pub octets_at : (p : Step ℕ) → p ≡ octets_by cells (drop i s) → p ≡ measured total (next_field es (drop i s))
    octets_at p e = e ∙ octets_are (drop i s) (octets_after (take i s) (drop i s) (rw (take-append-drop i s) o))
