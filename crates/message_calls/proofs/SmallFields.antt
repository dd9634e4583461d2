-- A step over or into a field whose control part is one octet.
use Prim.Native.Nat.{ℕ, ◌+◌}
use mathlib.Core.Path.{◌≡◌, refl, sym, ap, ◌∙◌}
use mathlib.Core.Bool.{true, cond}
use mathlib.Core.List.{List}
use lib.ListN.{drop}
use Rattle.std.specs.Prelude.{Some, None}
use Rattle.reading.specs.Refusals as refusals
use Rattle.table_index.specs.internal.Cells.{code_in, meaning_of, meaning_in, indexed, noted_in}
use Rattle.message.specs.Single.{repeats}
use Rattle.message.specs.Reading.{tag_at, too_deep}
use Rattle.message.specs.internal.Short.{short_contents}
use Rattle.message_field.specs.internal.Nexts.{Next, Fault, Over, next_by_kind, next_of, noted_tags, noted_of, small_at, small_contents, small_cell}
use Rattle.message_field.proofs.Nexts.{cell_small, cell_is, small_repeats, small_field, passed_next}
use Rattle.message_field.proofs.Notes.{noted_tags_lem, repeats_noted, noted_repeats, noted_mask}
use Rattle.message_calls.specs.internal.SmallFields.{Known}
use Rattle.message_calls.specs.declared.traversal.Look.TheVariants.{Passed}

-- A field whose control part is one octet, by its cell.
module _ (cells : List ℕ) (levels number seen : ℕ) (s : List ℕ) (i cell : ℕ) (e : Some cell ≡ small_cell cells number s i) where
  abbrev before : List ℕ
  before = noted_tags cells number seen

  small : small_at s i ≡ true
  small = cell_small cells number s i cell e

  repeats-is : repeats (indexed cells) number before (tag_at (drop i s)) ≡ noted_in seen cell
  repeats-is =
      repeats_noted cells number before seen (noted_tags_lem cells number seen) (tag_at (drop i s))
      ∙ ap (noted_in seen) (sym (cell_is cells number s i cell e small))

  -- It repeats a single one.
  pub again : None ≡ noted_of seen cell → (k : ℕ) → k ≡ cond (too_deep levels (meaning_in cell)) refusals.too_deep refusals.repeated → Fault k ≡ next_of cells levels number before seen s i
  again n k f =
      ap Fault f ∙ small_repeats cells number s i cell e small levels before seen (repeats-is ∙ noted_repeats seen cell n)

  -- It is noted.
  module _ (mask : ℕ) (n : Some mask ≡ noted_of seen cell) (code : ℕ) (k : code ≡ code_in cell) where
    pub by_code : {r : Next} → r ≡ next_by_kind levels (meaning_of code) (i + 1) (short_contents (meaning_of code) (small_contents s i)) mask (small_contents s i)
        → r ≡ next_of cells levels number before seen s i
    unfolding meaning_in
    by_code p =
        let m = noted_mask seen cell mask n in
        p ∙ rw (k, m.1) (small_field cells number s i cell e small levels before seen (repeats-is ∙ m.0))

-- A field that is passed.
pub over_passed : (cells : List ℕ) (levels number seen : ℕ) (s : List ℕ) (i end mask : ℕ) → Known cells number seen s i (Passed end mask)
    → Over end true mask ≡ next_of cells levels number (noted_tags cells number seen) seen s i
over_passed cells levels number seen s i end mask p =
    let f = p.0 in
    by_code cells levels number seen s i f.cell f.found mask f.noted (code_in f.cell) refl
    (passed_next s i (cell_small cells number s i f.cell f.found) levels (code_in f.cell) mask end p.2 p.1 p.3)
