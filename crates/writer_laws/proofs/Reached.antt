-- States that runs reach.
use Prim.Native.Nat.{ℕ, ◌+◌, ◌≤◌}
use native.Mathlib.Omega.{arith}
use native.Mathlib.Numerals.{add-one}
use mathlib.Core.Path.{◌≡◌, ap, ap₂, ◌∙◌}
use mathlib.Core.Bool.{true, cond, ◌&&◌}
use mathlib.Core.List.{List}
use lib.ListN.{length, take, get_or}
use lib.Dec.{leb}
use borrow.Author.Tests.{le-leb}
use Rattle.table.specs.Entry.{entries}
use Rattle.table.specs.Mask.{order, has_bit, with_bit}
use Rattle.table.specs.Schema.{is_revision, schema}
use Rattle.table.specs.Valid.{valid}
use Rattle.table.specs.declared.Table.{Table}
use Rattle.octets.proofs.Bools.{and_both}
use Rattle.reading.specs.Reading.{message_limit}
use Rattle.message.specs.Single.{repeats}
use Rattle.writer_state.specs.Sound.{falling, small, sound}
use Rattle.writer_state.specs.Calls.{level, mask, meant, single, noted, mask_with}
use Rattle.writer_state.specs.declared.State.{State}
use Rattle.writer_laws.specs.Given.{Given, tags_given, open_fields, innermost}
use Rattle.writer_laws.specs.Written.{written}
use Rattle.writer_laws.proofs.Fields.{AllRead}
use Rattle.writer_laws.proofs.Levels.{LevelsAgree, levels_number, levels_fall, levels_small}
use Rattle.writer_laws.proofs.Masks.{MasksAgree, noting_tag, noted_repeats}
use Rattle.writer_laws.proofs.Buffer.{Filled}

-- How many levels a state has slots for.
pub record Slots (s : State) : Type 0 where
  pub number_slots : length s.numbers ≡ 8
  pub mask_slots : length s.masks ≡ 8
  pub mark_slots : length s.marks ≡ 7
  pub tag_slots : length s.tags ≡ 7

-- What holds of the state and the buffer after a run that gave fields.
pub record Reached (t : Table) (revision number : ℕ) (lent : List ℕ) (s : State) (d : List ℕ) (g : Given) : Type 0 where
  pub good_table : valid t ≡ true
  pub good_revision : is_revision revision ≡ true
  pub good_number : number ≤ 15
  pub limit : length lent ≤ message_limit
  pub size : s.length ≡ length lent
  pub profile : s.revision ≡ revision
  pub slots : Slots s
  pub count : s.opened ≡ open_fields g
  pub few : open_fields g ≤ 7
  pub filled : Filled lent d s.start (written g)
  pub levels : LevelsAgree t revision number (length lent) s.numbers s.marks s.tags g
  pub masks : MasksAgree t revision number s.masks g
  pub reads : AllRead (schema revision t) number g

module _ (t : Table) (revision number : ℕ) (lent : List ℕ) (s : State) (d : List ℕ) (g : Given) (r : Reached t revision number lent s d g) where
  pub reached_sound : sound s ≡ true
  unfolding sound
  reached_sound =
      let n = r.levels in
      let k = r.few in
      let p = r.filled.place in
      let a = leb s.length 65536 in
      let b = leb s.start s.length in
      let c = leb s.opened 7 in
      let v = is_revision s.revision in
      let e = falling s.start s.length (take s.opened s.marks) in
      let f = small (take (s.opened + 1) s.numbers) in
      let l = r.limit in
      let z = r.size in
      let o = r.count in
      let i = r.slots.number_slots in
      let j = r.slots.mark_slots in
      let fall : e ≡ true = rw (z, o) (levels_fall t revision number (length lent) s.numbers s.marks s.tags g s.start (omega arith) p n) in
      let smalls : f ≡ true =
      rw (o, add-one (open_fields g)) (levels_small t revision number (length lent) s.numbers s.marks s.tags r.good_table r.good_number g (omega arith) n) in
      and_both (a && b && c && v && e) f
      (and_both (a && b && c && v) e
      (and_both (a && b && c) v
      (and_both (a && b) c
      (and_both a b (le-leb s.length 65536 (omega arith)) (le-leb s.start s.length (omega arith)))
      (le-leb s.opened 7 (omega arith)))
      (ap is_revision r.profile ∙ r.good_revision))
      fall)
      smalls

  -- The level of the state is that of the fields given.
  pub reached_level : level s ≡ innermost (schema revision t) number g
  unfolding level
  reached_level =
      ap (λ (i : ℕ). get_or s.numbers i 0) r.count
      ∙ levels_number t revision number (length lent) s.numbers s.marks s.tags g r.levels

  reached_mask : mask s ≡ get_or s.masks (open_fields g) 0
  unfolding mask
  reached_mask = ap (λ (i : ℕ). get_or s.masks i 0) r.count

  -- So is whatever depends on the revision, the level's number and its mask.
  by_level : {A : Type 0} (f : ℕ → ℕ → ℕ → A)
      → f s.revision (level s) (mask s) ≡ f revision (innermost (schema revision t) number g) (get_or s.masks (open_fields g) 0)
  by_level f = ap (λ (v : ℕ). f v (level s) (mask s)) r.profile ∙ ap₂ (f revision) reached_level reached_mask

  pub reached_meant : (tag : ℕ) → meant t s tag ≡ (schema revision t).means (innermost (schema revision t) number g) tag
  unfolding meant
  reached_meant tag = by_level (λ (v n m : ℕ). (schema v t).means n tag)

  -- A tag is noted exactly if it repeats a field given.
  pub reached_noted : (tag : ℕ) → noted t s tag ≡ repeats (schema revision t) (innermost (schema revision t) number g) (tags_given g) tag
  unfolding noted single
  reached_noted tag =
      by_level (λ (v n m : ℕ). (schema v t).single n tag && has_bit m (order (entries t) n tag))
      ∙ noted_repeats t revision number s.masks g r.masks tag

  pub reached_noting : (tag : ℕ) → mask_with t s tag ≡ noting_tag t revision number s.masks g tag
  unfolding mask_with single
  reached_noting tag = by_level (λ (v n m : ℕ). cond ((schema v t).single n tag) (with_bit m (order (entries t) n tag)) m)
