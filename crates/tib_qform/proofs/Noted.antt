-- What the cells hold in which a dictionary was noted, and whether the dictionary is good. The cells were cleared before.
use Prim.Native.Nat.{ℕ, ◌≤◌, ◌<◌, ◌/◌}
use native.Mathlib.Omega.{arith}
use mathlib.Core.Path.{◌≡◌, refl, sym, ap, ◌∙◌, subst}
use mathlib.Core.Bool.{Bool, true, false, cond}
use mathlib.Core.List.{List}
use lib.ListN.{length, replicate}
use lib.Dec.{ltb}
use borrow.Author.Tests.{ltb-true, ltb-false}
use Rattle.reading.specs.Reading.{accepted, refused}
use Rattle.tib_dictionary.specs.Entry.{entries}
use Rattle.tib_dictionary.specs.Load.{loading}
use Rattle.tib_dictionary.specs.Valid.{valid}
use Rattle.tib_dictionary.specs.internal.Search.{records_of}
use Rattle.tib_dictionary.specs.internal.Cells.{CellsOf, note_from, all_noted, cells_after}
use Rattle.tib_dictionary.specs.declared.Entry.{Entry}
use Rattle.tib_dictionary.specs.declared.Dictionary.{Dictionary}
use Rattle.tib_field.proofs.ReadingLaws.{not_accepted}
use Rattle.tib_qform.specs.CheckAndField.{entries_of}
use Rattle.tib_dictionary.proofs.Cells.{note_refuses, NotedRecords, note_accepts, words_valid, words_noted}

-- The octets of a dictionary, of which noting passed `end`.
module _ (dictionary : List ℕ) (end : ℕ) (is : end ≡ (note_from 512 dictionary (replicate 16384 0)).0) where
  pub faulty_records : end < length dictionary → loading dictionary ≡ refused 2 end
  faulty_records h = note_refuses dictionary (omega arith) ∙ ap (refused 2) (sym is)

  pub good_records : (cells : List ℕ) → cells ≡ (note_from 512 dictionary (replicate 16384 0)).1 → length dictionary ≤ end → NotedRecords dictionary cells
  good_records cells e h = subst (NotedRecords dictionary) (sym e) (note_accepts dictionary (omega arith))

-- The entries of a dictionary that loads are its records.
pub records_read : (dictionary : List ℕ) (es : List Entry) → loading dictionary ≡ accepted es → records_of (length dictionary / 8) dictionary ≡ es
records_read dictionary es e = go (ltb end (length dictionary)) refl
  where
    end : ℕ
    end = (note_from 512 dictionary (replicate 16384 0)).0

    go : (t : Bool) → ltb end (length dictionary) ≡ t → records_of (length dictionary / 8) dictionary ≡ es
    go true h = absurd (not_accepted 2 end es (sym (faulty_records dictionary end refl (ltb-true end (length dictionary) h)) ∙ e))
    go false h =
        let n = good_records dictionary end refl (note_from 512 dictionary (replicate 16384 0)).1 refl (ltb-false end (length dictionary) h) in
        let same : n.es ≡ es = let l = sym n.loads ∙ e in cc in
        n.read ∙ same

-- A dictionary value: whether all its words were noted.
module _ (d : Dictionary) (all : Bool) (is : all ≡ all_noted d.words d.count (replicate 16384 0)) where
  pub valid_is : (t : Bool) → all ≡ t → valid d ≡ t
  valid_is t e = sym (words_valid d) ∙ sym is ∙ e

  pub good_words : (cells : List ℕ) → cells ≡ cells_after d.words d.count (replicate 16384 0) → all ≡ true → CellsOf (entries d) cells
  good_words cells e h = subst (CellsOf (entries d)) (sym e) (words_noted d (sym is ∙ h))

-- The entries of a dictionary value that is not refused.
pub value_read : (d : Dictionary) (es : List Entry) → entries_of d ≡ accepted es → entries d ≡ es
unfolding entries_of
value_read d es e = go (valid d) e
  where
    go : (t : Bool) → cond t (accepted (entries d)) (refused 2 0) ≡ accepted es → entries d ≡ es
    go true h = cc
    go false h = absurd (not_accepted 2 0 es h)
