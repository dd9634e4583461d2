-- The refusals that put and open share, case by case, and the answers of `cell_kind` and `tag_kind`.
use Prim.Native.Nat.{ℕ, ◌≤◌, ◌<◌}
use native.Mathlib.Omega.{arith}
use mathlib.Core.Path.{◌≡◌, refl, sym, ap, ◌∙◌}
use mathlib.Core.Bool.{Bool, true, false, cond, not, ◌&&◌, false≢true}
use mathlib.Core.List.{List}
use lib.ListN.{take, replicate}
use lib.Dec.{eqb, leb}
use borrow.Author.Tests.{eq-eqb, eqb-true, eqb-false, le-leb}
use Rattle.table.specs.Entry.{entries, kind_number, inner_of}
use Rattle.table.specs.Mask.{order}
use Rattle.table.specs.Schema.{Schema}
use Rattle.table.specs.Valid.{valid}
use Rattle.table.specs.declared.Meaning.{Meaning}
use Rattle.table.specs.declared.Meaning.TheVariants.{Raw, Uint, Int, String, Text, Message}
use Rattle.table.specs.declared.Table.{Table}
use Rattle.table_index.specs.internal.Cells.{meaning_in, single_in, order_in, inserted_words, cell_for, indexed, noted_in, note_in}
use Rattle.table_index.proofs.IndexLaws.{table_schema, table_order}
use Rattle.table_index.proofs.Meanings.{single_none}
use Rattle.writer_state.specs.Sound.{sound}
use Rattle.writer_state.specs.Calls.{or_refuse, level, mask, meant, single, noted, mask_with, of_octets, put_refusal, open_refusal}
use Rattle.writer_state.specs.ByOctets.{usable}
use Rattle.writer_state.specs.internal.Found.{FoundAnswer, found_under}
use Rattle.writer_state.specs.internal.Tags.{TagAnswer, fits, or_known, tag_kind, cell_kind}
use Rattle.writer_state.specs.declared.State.{State}
use Rattle.writer_state.proofs.Conditions.{put_met}
use Rattle.writer_state.proofs.Tags.{narrow_kind, narrow_octets}

-- ---- the kind that a call wants

pub other_octets : (k : Meaning) → (k ≡ String → ⊥) → (k ≡ Text → ⊥) → false ≡ of_octets (kind_number k)
unfolding of_octets kind_number
other_octets Raw s t = refl
other_octets Uint s t = refl
other_octets Int s t = refl
other_octets String s t = absurd (s refl)
other_octets Text s t = absurd (t refl)
other_octets (Message m) s t = refl

pub other_uint : (k : Meaning) → (k ≡ Uint → ⊥) → false ≡ fits 1 (kind_number k)
unfolding fits kind_number
other_uint Uint n = absurd (n refl)
other_uint Raw n = refl
other_uint Int n = refl
other_uint String n = refl
other_uint Text n = refl
other_uint (Message m) n = refl

pub other_int : (k : Meaning) → (k ≡ Int → ⊥) → false ≡ fits 2 (kind_number k)
unfolding fits kind_number
other_int Int n = absurd (n refl)
other_int Raw n = refl
other_int Uint n = refl
other_int String n = refl
other_int Text n = refl
other_int (Message m) n = refl

pub other_message : (k : Meaning) → ((m : ℕ) → k ≡ Message m → ⊥) → false ≡ fits 5 (kind_number k)
unfolding fits kind_number
other_message (Message m) n = absurd (n m refl)
other_message Raw n = refl
other_message Uint n = refl
other_message Int n = refl
other_message String n = refl
other_message Text n = refl

pub inner_none : (k : Meaning) → ((m : ℕ) → k ≡ Message m → ⊥) → 0 ≡ inner_of k
unfolding inner_of
inner_none (Message m) n = absurd (n m refl)
inner_none Raw n = refl
inner_none Uint n = refl
inner_none Int n = refl
inner_none String n = refl
inner_none Text n = refl

-- ---- a put of no octets

pub unusable : (a b : Bool) (next : ℕ) → a && b ≡ false → or_refuse a 10 (or_refuse b 10 next) ≡ 10
unfolding or_refuse
unusable true b next e = rw e refl
unusable false b next e = refl

pub usable_passed : (a b : Bool) (next : ℕ) → a && b ≡ true → or_refuse a 10 (or_refuse b 10 next) ≡ next
unfolding or_refuse
usable_passed true b next e = rw e refl
usable_passed false b next e = absurd (false≢true e)

module _ (t : Table) (s : State) (len tag wanted : ℕ) where
  abbrev suits : Bool
  suits = fits wanted (kind_number (meant t s tag))

  abbrev late : ℕ
  late = or_refuse suits 8 (or_refuse (not (noted t s tag)) 20 (or_refuse true 7 (or_refuse (leb 0 s.start) 9 0)))

  pub under_unusable : false ≡ usable s len → ◌≡◌ {A = FoundAnswer} (record { place = 0; tagged = record { refusal = 10; kind = 0; inner = 0; mask = 0 } }) (found_under t s len tag wanted)
  unfolding found_under tag_kind or_known put_refusal usable
  under_unusable u = rw (unusable (eqb len s.length) (sound s) (or_refuse (valid t) 2 late) (sym u)) refl

  module _ (u : usable s len ≡ true) where
    pub under_faulty : valid t ≡ false → ◌≡◌ {A = FoundAnswer} (record { place = 0; tagged = record { refusal = 2; kind = 0; inner = 0; mask = 0 } }) (found_under t s len tag wanted)
    unfolding found_under tag_kind or_known put_refusal usable
    under_faulty v = rw (usable_passed (eqb len s.length) (sound s) (or_refuse (valid t) 2 late) u, v) (unfold or_refuse in refl)

    -- The tag decides.
    early_tag : valid t ≡ true → or_refuse suits 8 (or_refuse (not (noted t s tag)) 20 0) ≡ put_refusal t s tag len suits true 0
    unfolding put_refusal usable
    early_tag v = sym (usable_passed (eqb len s.length) (sound s) (or_refuse (valid t) 2 late) u ∙ unfold or_refuse in rw (v, le-leb 0 s.start (omega arith)) refl)

-- ---- after it

-- The five tests that come first, and the tests after them.
unfoldable first : Bool → Bool → Bool → Bool → Bool → ℕ → ℕ
first a b d f o next = or_refuse a 10 (or_refuse b 10 (or_refuse d 2 (or_refuse f 8 (or_refuse o 20 next))))

-- If one of the five fails, its refusal is the answer; else the tests after them decide.
first_kept : (a b d f o : Bool) (x y : ℕ) → x ≡ 0 → (first a b d f o x ≡ 0 → ⊥) → first a b d f o x ≡ first a b d f o y
unfolding first or_refuse
first_kept false b d f o x y z n = refl
first_kept true false d f o x y z n = refl
first_kept true true false f o x y z n = refl
first_kept true true true false o x y z n = refl
first_kept true true true true false x y z n = refl
first_kept true true true true true x y z n = absurd (n z)

first_none : (a b d f o : Bool) (x y : ℕ) → first a b d f o x ≡ 0 → first a b d f o y ≡ y
unfolding first or_refuse
first_none false b d f o x y e = absurd (omega arith)
first_none true false d f o x y e = absurd (omega arith)
first_none true true false f o x y e = absurd (omega arith)
first_none true true true false o x y e = absurd (omega arith)
first_none true true true true false x y e = absurd (omega arith)
first_none true true true true true x y e = refl

module _ (s : State) where
  abbrev rest : Bool → ℕ → ℕ
  rest reads size = or_refuse reads 7 (or_refuse (leb size s.start) 9 0)

  no_octets : rest true 0 ≡ 0
  unfolding or_refuse
  no_octets = rw (le-leb 0 s.start (omega arith)) refl

module _ (t : Table) (s : State) (tag len : ℕ) (agrees : Bool) (got : ℕ) (e : got ≡ put_refusal t s tag len agrees true 0) where
  -- Any other put.
  pub put_kept : (reads : Bool) (size : ℕ) → (got ≡ 0 → ⊥) → got ≡ put_refusal t s tag len agrees reads size
  unfolding put_refusal first
  put_kept reads size ne =
      e
      ∙ first_kept (eqb len s.length) (sound s) (valid t) agrees (not (noted t s tag)) (rest s true 0) (rest s reads size) (no_octets s) (λ z. ne (e ∙ z))

  pub put_rest : (reads : Bool) (size : ℕ) → got ≡ 0 → put_refusal t s tag len agrees reads size ≡ or_refuse reads 7 (or_refuse (leb size s.start) 9 0)
  unfolding put_refusal first
  put_rest reads size z =
      first_none (eqb len s.length) (sound s) (valid t) agrees (not (noted t s tag)) (rest s true 0) (rest s reads size) (sym e ∙ z)

-- An open, which gets no buffer.
module _ (t : Table) (s : State) (tag : ℕ) (agrees : Bool) (got : ℕ) (e : got ≡ put_refusal t s tag s.length agrees true 0) where
  early : got ≡ first true (sound s) (valid t) agrees (not (noted t s tag)) (rest s true 0)
  unfolding put_refusal first
  early = e ∙ rw (eq-eqb s.length s.length refl) refl

  abbrev deep : ℕ
  deep = or_refuse (leb s.opened 6) 5 0

  pub open_kept : (got ≡ 0 → ⊥) → got ≡ open_refusal t s tag agrees
  unfolding open_refusal first or_refuse
  open_kept ne = early ∙ first_kept true (sound s) (valid t) agrees (not (noted t s tag)) (rest s true 0) deep (no_octets s) (λ z. ne (early ∙ z))

  pub open_rest : got ≡ 0 → open_refusal t s tag agrees ≡ or_refuse (leb s.opened 6) 5 0
  unfolding open_refusal first or_refuse
  open_rest z = first_none true (sound s) (valid t) agrees (not (noted t s tag)) (rest s true 0) deep (sym early ∙ z)

-- ---- the answer of `tag_kind`

-- The cell of a tag in the index of the table tells what the table does.
module _ (t : Table) (s : State) (tag : ℕ) {cells : List ℕ} (v : valid t ≡ true)
    (filled : cells ≡ inserted_words s.revision (take t.count t.words) (replicate 128 0)) where
  abbrev cell : ℕ
  cell = cell_for cells (level s) tag

  cell_means : meaning_in cell ≡ meant t s tag
  unfolding meant indexed
  cell_means = ap (λ (sc : Schema). sc.means (level s) tag) (table_schema s.revision t v filled)

  cell_single : single_in cell ≡ single t s tag
  unfolding single indexed
  cell_single = ap (λ (sc : Schema). sc.single (level s) tag) (table_schema s.revision t v filled)

  cell_order : single_in cell ≡ true → order_in cell ≡ order (entries t) (level s) tag
  cell_order e = table_order s.revision t v filled (level s) tag (λ z. false≢true (sym single_none ∙ ap single_in (sym z) ∙ e))

  cell_noted : noted_in (mask s) cell ≡ noted t s tag
  unfolding noted_in noted
  cell_noted = go (single_in cell) refl
    where
      go : (b : Bool) → single_in cell ≡ b → noted_in (mask s) cell ≡ noted t s tag
      go true e = rw (← cell_single, e, cell_order e) refl
      go false e = rw (← cell_single, e) refl

  cell_note : note_in (mask s) cell ≡ mask_with t s tag
  unfolding note_in mask_with
  cell_note = go (single_in cell) refl
    where
      go : (b : Bool) → single_in cell ≡ b → note_in (mask s) cell ≡ mask_with t s tag
      go true e = rw (← cell_single, e, cell_order e) refl
      go false e = rw (← cell_single, e) refl

  pub tag_known : (len wanted : ℕ) → usable s len ≡ true → {r : FoundAnswer} → r ≡ record { place = 0; tagged = cell_kind cell (mask s) wanted }
      → r ≡ found_under t s len tag wanted
  unfolding cell_kind tag_kind found_under
  tag_known len wanted u e = e ∙ rw (cell_means, cell_noted, cell_note, early_tag t s len tag wanted u v) refl

module _ (t : Table) (s : State) (len tag wanted : ℕ) where
  abbrev means : Meaning
  means = meant t s tag

  -- What the answer of `tag_kind` tells.
  pub record TagRead (r : TagAnswer) : Type 0 where
    pub refused : r.refusal ≡ put_refusal t s tag len (suits t s len tag wanted) true 0
    pub kind : r.refusal ≡ 0 → r.kind ≡ kind_number means
    pub inner : r.refusal ≡ 0 → r.inner ≡ inner_of means
    pub mask : r.refusal ≡ 0 → r.mask ≡ mask_with t s tag

  pub tag_read : {r : TagAnswer} → r ≡ tag_kind t s len tag wanted → TagRead r
  unfolding tag_kind or_known
  tag_read {r} e = go (put_refusal t s tag len (suits t s len tag wanted) true 0) refl (eqb (put_refusal t s tag len (suits t s len tag wanted) true 0) 0) refl e
    where
      go : (k : ℕ) → put_refusal t s tag len (suits t s len tag wanted) true 0 ≡ k → (b : Bool) → eqb k 0 ≡ b
          → r ≡ cond b (record { refusal = 0; kind = kind_number means; inner = inner_of means; mask = mask_with t s tag }) (record { refusal = k; kind = 0; inner = 0; mask = 0 })
          → TagRead r
      go k p true q f =
          record {
            refused = ap (λ (x : TagAnswer). x.refusal) f ∙ sym (p ∙ eqb-true k 0 q);
            kind = λ z. ap (λ (x : TagAnswer). x.kind) f;
            inner = λ z. ap (λ (x : TagAnswer). x.inner) f;
            mask = λ z. ap (λ (x : TagAnswer). x.mask) f;
          }
      go k p false q f =
          let n : r.refusal ≡ k = ap (λ (x : TagAnswer). x.refusal) f in
          let bad : r.refusal ≡ 0 → ⊥ = λ z. eqb-false k 0 q (sym n ∙ z) in
          record { refused = n ∙ sym p; kind = λ z. absurd (bad z); inner = λ z. absurd (bad z); mask = λ z. absurd (bad z) }

  -- A tag of the kind that a call wants is in range.
  pub tag_narrow : {r : TagAnswer} → 1 ≤ wanted → r ≡ tag_kind t s len tag wanted → r.refusal ≡ 0 → tag < 65536
  unfolding fits
  tag_narrow {r} low e z = go (eqb wanted 3) refl agreed
    where
      agreed : suits t s len tag wanted ≡ true
      agreed = (put_met t s tag len (suits t s len tag wanted) true 0 (sym (tag_read e).refused ∙ z)).agreed

      go : (b : Bool) → eqb wanted 3 ≡ b → cond b (of_octets (kind_number means)) (eqb (kind_number means) wanted) ≡ true → tag < 65536
      go true q h = narrow_octets t s tag (kind_number means) refl h
      go false q h = narrow_kind t s tag wanted (λ n. omega arith) (kind_number means) refl h
