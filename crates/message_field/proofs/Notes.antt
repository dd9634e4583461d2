-- Masks that note the single ones of the tags of the fields before.
use Prim.Native.Nat.{ℕ, zero, suc, ◌≤◌, ◌<◌}
use native.Mathlib.Omega.{arith}
use mathlib.Core.Path.{◌≡◌, refl, sym, ap, ◌∙◌}
use mathlib.Core.Bool.{Bool, true, false, cond, false≢true}
use mathlib.Core.List.{List, [], ◌∷◌}
use lib.Dec.{eqb, ltb}
use lib.ListN.{drop}
use borrow.Author.Tests.{eqb-true, eqb-false, ne_eqb, ltb-true, ltb-false}
use Rattle.table_index.specs.internal.Cells.{cell_for, single_in, order_in, indexed, noted_in, note_in, OneOrder}
use Rattle.table_index.proofs.Meanings.{cell_large}
use Rattle.message.specs.Single.{among, repeats}
use Rattle.message.specs.Reading.{tag_at}
use Rattle.message.specs.internal.Notes as specs
use Rattle.message.proofs.Steps.{step_any_before}
use Rattle.message.proofs.Notes as masks
use Rattle.message_field.specs.internal.Nexts.{next_at, short_field, next_of, Notes, passing, noted_tags, noted_of}
use Rattle.std.specs.Prelude.{Some, None}

module _ (cells : List ℕ) (n : ℕ) where
  abbrev is_single : ℕ → Bool
  is_single tag = single_in (cell_for cells n tag)

  abbrev order_of : ℕ → ℕ
  order_of tag = order_in (cell_for cells n tag)

  -- Before the first field nothing is noted.
  pub notes_none : Notes cells n [] 0
  unfolding Notes
  notes_none = masks.notes_none is_single order_of

  module _ (before : List ℕ) (mask : ℕ) (notes : Notes cells n before mask) (tag : ℕ) where
    abbrev cell : ℕ
    cell = cell_for cells n tag

    -- A field repeats a single one exactly if its tag is noted.
    pub repeats_noted : repeats (indexed cells) n before tag ≡ noted_in mask cell
    unfolding Notes repeats noted_in indexed
    repeats_noted = sym (masks.noted_among is_single order_of before mask notes tag)

    -- After a field its tag is noted too.
    pub notes_more : OneOrder cells → Notes cells n (tag ∷ before) (note_in mask cell)
    unfolding Notes note_in OneOrder
    notes_more one = masks.notes_more is_single order_of before mask notes tag (λ other e f. one n other tag e f)

-- ---- the tags that a mask notes

module _ (test : ℕ → Bool) where
  none_passing : (k tag : ℕ) → k ≤ tag → among tag (passing test k) ≡ false
  unfolding passing among
  none_passing zero tag h = refl
  none_passing (suc k) tag h = go (test k) (none_passing k tag (omega arith))
    where
      go : (b : Bool) → among tag (passing test k) ≡ false → among tag (cond b (k ∷ passing test k) (passing test k)) ≡ false
      go true rest = rw (ne_eqb k tag (λ e. omega arith)) rest
      go false rest = rest

  among_passing : (k tag : ℕ) → tag < k → among tag (passing test k) ≡ test tag
  unfolding passing among
  among_passing zero tag h = absurd (omega arith)
  among_passing (suc k) tag h = go (among_passing k tag) (eqb k tag) refl (test k) refl
    where
      last : eqb k tag ≡ true → k ≤ tag
      last q = let e = eqb-true k tag q in omega arith

      earlier : eqb k tag ≡ false → tag < k
      earlier q = omega (arith, eqb-false k tag q)

      go : (tag < k → among tag (passing test k) ≡ test tag) → (e : Bool) → eqb k tag ≡ e → (b : Bool) → test k ≡ b
          → among tag (cond b (k ∷ passing test k) (passing test k)) ≡ test tag
      go rest true q true t = rw q (sym t ∙ ap test (eqb-true k tag q))
      go rest true q false t = none_passing k tag (last q) ∙ sym t ∙ ap test (eqb-true k tag q)
      go rest false q true t = rw q (rest (earlier q))
      go rest false q false t = rest (earlier q)

module _ (cells : List ℕ) (n mask : ℕ) where
  -- A single tag is in range.
  single_small : (tag : ℕ) → single_in (cell_for cells n tag) ≡ true → tag < 65536
  unfolding single_in
  single_small tag e = go (ltb tag 65536) refl
    where
      go : (b : Bool) → ltb tag 65536 ≡ b → tag < 65536
      go true q = ltb-true tag 65536 q
      go false q = absurd (false≢true (ap single_in (cell_large cells n tag (ltb-false tag 65536 q)) ∙ e))

  -- The mask notes these tags,
  pub noted_tags_lem : Notes cells n (noted_tags cells n mask) mask
  unfolding Notes specs.Notes noted_tags noted_in
  noted_tags_lem = λ tag e. sym (among_passing (λ t. noted_in mask (cell_for cells n t)) 65536 tag (single_small tag e) ∙ rw e refl)

  -- and a step is the same after any fields whose tags it notes.
  pub same_next : (levels : ℕ) (before : List ℕ) (s : List ℕ) (i : ℕ) → Notes cells n before mask
      → next_of cells levels n (noted_tags cells n mask) mask s i ≡ next_of cells levels n before mask s i
  unfolding next_of
  same_next levels before s i notes =
      let r = drop i s in
      let tag = tag_at r in
      ap (next_at i (short_field (indexed cells) n r) (note_in mask (cell_for cells n tag)))
      (step_any_before (indexed cells) levels n (noted_tags cells n mask) before r
      (repeats_noted cells n (noted_tags cells n mask) mask noted_tags_lem tag ∙ sym (repeats_noted cells n before mask notes tag)))

-- What the function `note` returned, as it is tested.
module _ (mask cell : ℕ) where
  pub noted_repeats : None ≡ noted_of mask cell → noted_in mask cell ≡ true
  unfolding noted_of
  noted_repeats e = go (noted_in mask cell) e
    where
      go : (b : Bool) → None ≡ cond b None (Some (note_in mask cell)) → b ≡ true
      go true e = refl
      go false e = let z : ◌≡◌ {A = ℕ} 0 1 = cc in absurd (omega arith)

  pub noted_mask : (m : ℕ) → Some m ≡ noted_of mask cell → (noted_in mask cell ≡ false) × (m ≡ note_in mask cell)
  unfolding noted_of
  noted_mask m e = go (noted_in mask cell) e
    where
      go : (b : Bool) → Some m ≡ cond b None (Some (note_in mask cell)) → (b ≡ false) × (m ≡ note_in mask cell)
      go true e = let z : ◌≡◌ {A = ℕ} 0 1 = cc in absurd (omega arith)
      go false e = (refl, cc)
