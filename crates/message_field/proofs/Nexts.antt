-- The step at an offset of a message, whether the field there is in its shortest form, and the single tags noted after it.
use Prim.Native.Nat.{ℕ, ◌+◌, ◌-◌, ◌/◌, ◌%◌, ◌≤◌, ◌<◌}
use native.Mathlib.Nat.{add-zero}
use native.Mathlib.Omega.{arith}
use mathlib.Core.Path.{◌≡◌, refl, sym, ap, ◌∙◌, subst}
use mathlib.Core.Bool.{Bool, true, false, cond, ◌&&◌, and-false}
use mathlib.Core.List.{List, []}
use Rattle.std.specs.Prelude.{Some, None}
use mathlib.Core.Logic.{◌⊎◌, ⊎_elim}
use lib.Bits.{bit_and, and_mask}
use lib.Dec.{leb, ltb, eqb}
use lib.ListN.{length, get_or, take, drop, length-drop}
use lib.Seq.{drop-drop, drop-cons, length-take-le, get_or-take, get_or-drop}
use borrow.Author.Tests.{ltb-true, leb-true, le-ltb, lt-ltb, le-leb, lt-leb, eq-eqb, ne_eqb}
use Rattle.octets.specs.Number.{Octets}
use Rattle.octets.specs.Text.{text}
use Rattle.octets.specs.Control.{control}
use Rattle.octets.specs.declared.Control.TheVariants.{Absent, Partial, Whole}
use Rattle.octets.specs.Short.{short_control, short_uint, short_int}
use Rattle.octets.proofs.Number.{octets_part}
use Rattle.octets.proofs.Text.{up_to}
use Rattle.octets.proofs.ControlPart.{control_size}
use Rattle.octets.proofs.Bools.{and_four}
use Rattle.octets.proofs.Slices.{length_zero}
use Rattle.octets.proofs.Short.{none_short_uint, none_short_int, uint_by_first, int_by_first, short_direct}
use Rattle.octets_read.proofs.Leads.{control_from, whole_direct}
use Rattle.reading.specs.Refusals as refusals
use Rattle.table_index.specs.internal.Cells.{cell_for, meaning_of, meaning_in, indexed, note_in}
use Rattle.table_index.proofs.Meanings as means
use Rattle.table.specs.Entry.{kind_number}
use Rattle.table.specs.Schema.{Schema}
use Rattle.table.specs.declared.Meaning.{Meaning}
use Rattle.table.specs.declared.Meaning.TheVariants.{Raw, Uint, Int, String, Text, Message}
use Rattle.message.specs.Single.{repeats}
use Rattle.message.specs.Reading.{step, step_by_kind, too_deep, tag_at}
use Rattle.message.proofs.Steps.{tag_is}
use Rattle.message.specs.internal.Short.{short_contents}
use Rattle.message.specs.Reading.{Step}
use Rattle.message.specs.Reading as steps
use Rattle.message_field.specs.internal.Nexts.{next_at, next_by_kind, short_number, short_from, short_field, next_of, Passes, NoText, small_at, small_contents, small_cell}
use Rattle.message_field.specs.internal.Nexts.{Next}
use Rattle.message_field.specs.internal.Nexts.{Done, Fault, Over, Into}
use Rattle.message_field.proofs.Coded.{coded_message, coded_text, coded_wide, coded_over, kind_plain}
use Rattle.message_field.proofs.Fields.{at_end, in_control, past_end, whole_field}

-- ---- contents by the code of their kind

module _ (code : ℕ) (b : List ℕ) where
  pub short_message : 4 < code → short_contents (meaning_of code) b ≡ true
  unfolding short_contents
  short_message h = rw (← means.message code h) refl

  pub short_text : code ≡ 4 → short_contents (meaning_of code) b ≡ true
  unfolding short_contents
  short_text e = rw (← means.text code e) refl

  pub contents_uint : code ≡ 1 → short_contents (meaning_of code) b ≡ short_uint b
  unfolding short_contents
  contents_uint e = rw (← means.uint code e) refl

  pub contents_int : code ≡ 2 → short_contents (meaning_of code) b ≡ short_int b
  unfolding short_contents
  contents_int e = rw (← means.int code e) refl

  short_raw : code ≡ 0 → short_contents (meaning_of code) b ≡ true
  unfolding short_contents
  short_raw e = rw (← means.raw code e) refl

  short_string : code ≡ 3 → short_contents (meaning_of code) b ≡ true
  unfolding short_contents
  short_string e = rw (← means.string code e) refl

  -- A number without octets, and one whose first octet has a bit of the magnitude, is in its shortest form.
  pub none_number : length b ≡ 0 → short_number code b ≡ true
  unfolding short_number
  none_number z = rw (length_zero b z) (go (eqb code 1))
    where
      go : (w : Bool) → cond w (short_uint []) (short_int []) ≡ true
      go true = none_short_uint
      go false = none_short_int

  pub first_number : Octets b → length b ≤ 8 → 0 < length b → (bit_and (get_or b 0 0) 127 ≡ 0 → ⊥) → short_number code b ≡ true
  unfolding short_number
  first_number o few some first = go (eqb code 1)
    where
      bits : 1 ≤ get_or b 0 0 % 128
      bits = let m = and_mask (get_or b 0 0) 7 in omega (arith, first)

      go : (w : Bool) → cond w (short_uint b) (short_int b) ≡ true
      go true = let m = bits in uint_by_first b o some few (omega arith)
      go false = int_by_first b o some few bits

  -- A number by its code.
  pub number_uint : code ≡ 1 → short_number code b ≡ short_uint b
  unfolding short_number
  number_uint e = rw (eq-eqb code 1 e) refl

  pub number_int : (code ≡ 1 → ⊥) → short_number code b ≡ short_int b
  unfolding short_number
  number_int e = rw (ne_eqb code 1 e) refl

  -- The contents of a field that is a number.
  module _ (h : 1 ≤ code) (k : code ≤ 2) where
    pub number_contents : short_number code b ≡ short_contents (meaning_of code) b
    number_contents =
        up_to code 1 (λ y. number_uint (omega arith) ∙ sym (contents_uint (omega arith)))
        (λ y. number_int (λ e. omega arith) ∙ sym (contents_int (omega arith)))

    pub none_short : length b ≡ 0 → short_contents (meaning_of code) b ≡ true
    none_short z = sym number_contents ∙ none_number z

    pub first_short : Octets b → length b ≤ 8 → 0 < length b → (bit_and (get_or b 0 0) 127 ≡ 0 → ⊥) → short_contents (meaning_of code) b ≡ true
    first_short o few some first = sym number_contents ∙ first_number o few some first

  -- Contents that are no number have one form only.
  pub short_no_number : code < 4 → (code ≡ 1 → ⊥) → (code ≡ 2 → ⊥) → short_contents (meaning_of code) b ≡ true
  short_no_number h p q = up_to code 0 (λ z. short_raw (omega arith)) (λ z. short_string (omega (arith, p, q)))

-- ---- a field by the code of what its tag means and where its contents start and end

module _ (code : ℕ) (s : List ℕ) (a e : ℕ) (h : (a ≤ e) × (e ≤ length s)) where
  abbrev contents : List ℕ
  contents = take (e - a) (drop a s)

  pub contents_length : length contents ≡ e - a
  contents_length = let p = h.0 in let q = h.1 in let d = length-drop a s in length-take-le (e - a) (drop a s) (omega arith)

  -- Contents of one to eight octets, neither text nor a message, whose first octet has a bit of the magnitude.
  pub by_first : code < 4 → Octets s → 0 < e - a → e - a ≤ 8 → (bit_and (get_or s a 0) 127 ≡ 0 → ⊥) → short_contents (meaning_of code) contents ≡ true
  by_first k o some few f =
      let size = contents_length in
      let first_is : get_or contents 0 0 ≡ get_or s a 0 = get_or-take (e - a) (drop a s) 0 0 some ∙ get_or-drop a s 0 0 ∙ ap (λ (j : ℕ). get_or s j 0) (add-zero a) in
      up_to code 0 (λ z. short_no_number code contents k (λ x. omega arith) (λ x. omega arith))
      (λ z. up_to code 2 (λ w. first_short code contents (omega arith) (omega arith) (octets_part (e - a) a s o) (omega arith) (omega arith) (rw first_is f))
      (λ w. short_no_number code contents k (λ x. omega arith) (λ x. omega arith)))

  end_is : a + 0 + length contents ≡ e
  end_is = let w = contents_length in let p = h.0 in omega arith

  module _ (t : Bool) (mask : ℕ) where
    over_at : Over e t mask ≡ next_at a t mask (steps.Over 0 (length contents))
    unfolding next_at
    over_at = sym (ap (λ (x : ℕ). Over x t mask) end_is)

    pub message_at : 4 < code → Into (code - 5) a e t mask ≡ next_at a t mask (step_by_kind (meaning_of code) 0 contents)
    unfolding next_at
    message_at k = sym (rw (end_is, add-zero a) refl) ∙ ap (next_at a t mask) (coded_message 0 contents code k)

    pub plain_at : code < 4 → (8 < e - a → code ≡ 1 → ⊥) → (8 < e - a → code ≡ 2 → ⊥) → Over e t mask ≡ next_at a t mask (step_by_kind (meaning_of code) 0 contents)
    plain_at k x y = over_at ∙ ap (next_at a t mask) (coded_over 0 contents code k (rw contents_length x) (rw contents_length y))

    pub wide_at : 8 < e - a → (code ≡ 1) ⊎ (code ≡ 2) → Fault 6 ≡ next_at a t mask (step_by_kind (meaning_of code) 0 contents)
    unfolding next_at
    wide_at k x = ap (next_at a t mask) (coded_wide 0 contents code (rw contents_length k) x)

    pub text_at : code ≡ 4 → text contents ≡ true → Over e t mask ≡ next_at a t mask (step_by_kind (meaning_of code) 0 contents)
    text_at k w = over_at ∙ ap (next_at a t mask) (rw w at (coded_text 0 contents code k))

    pub no_text_at : code ≡ 4 → text contents ≡ false → Fault 7 ≡ next_at a t mask (step_by_kind (meaning_of code) 0 contents)
    unfolding next_at
    no_text_at k w = ap (next_at a t mask) (rw w at (coded_text 0 contents code k))

-- ---- a field that is too deep

-- Only a message is too deep, and only where none may be nested.
pub deep_plain : (levels code : ℕ) → code ≤ 4 → too_deep levels (meaning_of code) ≡ false
unfolding too_deep
deep_plain levels code h = rw (ne_eqb (kind_number (meaning_of code)) 5 (λ e. omega (arith, e, kind_plain code h))) (and-false (eqb levels 0))

pub deep_message : (code : ℕ) → 4 < code → too_deep 0 (meaning_of code) ≡ true
unfolding too_deep kind_number
deep_message code h = rw (← means.message code h) refl

pub deep_never : (levels : ℕ) (kind : Meaning) → 1 ≤ levels → too_deep levels kind ≡ false
unfolding too_deep
deep_never levels kind h = rw (ne_eqb levels 0 (λ e. omega arith)) refl

module _ (levels : ℕ) (kind : Meaning) (a : ℕ) (t : Bool) (mask : ℕ) (b : List ℕ) where
  pub deep_refused : too_deep levels kind ≡ true → Fault refusals.too_deep ≡ next_by_kind levels kind a t mask b
  unfolding next_by_kind
  deep_refused e = rw e refl

  pub by_kind : too_deep levels kind ≡ false → {r : Next} → r ≡ next_at a t mask (step_by_kind kind 0 b) → r ≡ next_by_kind levels kind a t mask b
  unfolding next_by_kind
  by_kind e p = p ∙ rw e refl

-- ---- a field whose control part is known

module _ (i size : ℕ) (b : List ℕ) (t : Bool) (mask : ℕ) where
  chosen : (w : Bool) (reason : ℕ)
      → next_at (i + size) t mask (cond w (steps.Over 0 (length b)) (steps.Fault reason)) ≡ next_at i t mask (cond w (steps.Over size (length b)) (steps.Fault reason))
  unfolding next_at
  chosen true reason = rw (add-zero (i + size)) refl
  chosen false reason = refl

  -- Offsets counted from the contents, and from the control part.
  shifted : (m : Meaning) → next_at (i + size) t mask (step_by_kind m 0 b) ≡ next_at i t mask (step_by_kind m size b)
  unfolding next_at step_by_kind
  shifted Raw = rw (add-zero (i + size)) refl
  shifted Uint = chosen (leb (length b) 8) 6
  shifted Int = chosen (leb (length b) 8) 6
  shifted String = rw (add-zero (i + size)) refl
  shifted Text = chosen (text b) 7
  shifted (Message m) = rw (add-zero (i + size)) refl

-- A test that may refuse a field, before and after the step is made one with offsets.
refusing : (i : ℕ) (t : Bool) (mask : ℕ) (w : Bool) (reason : ℕ) (x : Step)
    → cond w (Fault reason) (next_at i t mask x) ≡ next_at i t mask (cond w (steps.Fault reason) x)
unfolding next_at
refusing i t mask true reason x = refl
refusing i t mask false reason x = refl

module _ (cells : List ℕ) (levels n : ℕ) (before : List ℕ) (mask : ℕ) (s : List ℕ) (i : ℕ) where
  abbrev noted : ℕ
  noted = note_in mask (cell_for cells n (tag_at (drop i s)))

  abbrev is_short : Bool
  is_short = short_field (indexed cells) n (drop i s)

  pub done_at : control (drop i s) ≡ Absent → Done ≡ next_of cells levels n before mask s i
  unfolding next_of next_at
  done_at e = ap (next_at i is_short noted) (at_end (indexed cells) levels n before (drop i s) e)

  pub partial_at : control (drop i s) ≡ Partial → Fault 3 ≡ next_of cells levels n before mask s i
  unfolding next_of next_at
  partial_at e = ap (next_at i is_short noted) (in_control (indexed cells) levels n before (drop i s) e)

module _ (s : List ℕ) (i tag len size : ℕ) (e : control (drop i s) ≡ Whole tag len size) where
  -- The control part ends within the octets; an offset past their end has none.
  pub start_inside : i + size ≤ length s
  start_inside = let d = length-drop i s in let h = control_size (drop i s) tag len size e in let p = h.0 in let q = h.1 in omega arith

  remaining_is : length (drop i s) - size ≡ length s - (i + size)
  remaining_is = let d = length-drop i s in omega arith

  module _ (cells : List ℕ) (levels n : ℕ) (before : List ℕ) (mask : ℕ) where
    abbrev sc : Schema
    sc = indexed cells

    pub past_at : length s - (i + size) < len → Fault 4 ≡ next_of cells levels n before mask s i
    unfolding next_of next_at
    past_at h =
        ap (next_at i (short_field sc n (drop i s)) (note_in mask (cell_for cells n (tag_at (drop i s)))))
        (past_end sc levels n before (drop i s) tag len size e (rw remaining_is h))

    abbrev held : List ℕ
    held = take (i + size + len - (i + size)) (drop (i + size) s)

    held_is : held ≡ take len (drop size (drop i s))
    held_is = let k : i + size + len - (i + size) ≡ len = omega arith in rw (k, drop-drop size i s) refl

    short_field_is : short_control (drop i s) && short_contents (sc.means n tag) held ≡ short_field sc n (drop i s)
    unfolding short_field short_from short_control
    short_field_is = rw (held_is, e) refl

    -- The step at a whole field, with its tests in their order.
    tested_at : len ≤ length s - (i + size) → (t : Bool) → t ≡ short_field sc n (drop i s)
        → cond (too_deep levels (sc.means n tag)) (Fault refusals.too_deep)
        (cond (repeats sc n before tag) (Fault refusals.repeated)
        (next_at (i + size) t (note_in mask (cell_for cells n tag)) (step_by_kind (sc.means n tag) 0 held)))
        ≡ next_of cells levels n before mask s i
    unfolding next_of
    tested_at h t f =
        let b = take (size + len - size) (drop size (drop i s)) in
        let k : size + len - size ≡ len = omega arith in
        let p : held ≡ b = held_is ∙ sym (ap (λ (x : ℕ). take x (drop size (drop i s))) k) in
        let kind = sc.means n tag in
        let m = note_in mask (cell_for cells n tag) in
        let x = step_by_kind kind size b in
        let again = repeats sc n before tag in
        ap (λ (y : Next). cond (too_deep levels kind) (Fault refusals.too_deep) (cond again (Fault refusals.repeated) y))
        (ap (λ (y : List ℕ). next_at (i + size) t m (step_by_kind kind 0 y)) p ∙ shifted i size b t m kind)
        ∙ ap (λ (y : Next). cond (too_deep levels kind) (Fault refusals.too_deep) y) (refusing i t m again refusals.repeated x)
        ∙ refusing i t m (too_deep levels kind) refusals.too_deep (cond again (steps.Fault refusals.repeated) x)
        ∙ ap (next_at i t m) (whole_field sc levels n before (drop i s) tag len size e (rw remaining_is h))
        ∙ rw (f, tag_is (drop i s) tag len size e) refl

    -- A field that repeats none, by the kind of its tag and its contents.
    pub field_at : len ≤ length s - (i + size) → repeats sc n before tag ≡ false → (short : Bool) → short ≡ short_control (drop i s)
        → next_by_kind levels (sc.means n tag) (i + size) (short && short_contents (sc.means n tag) held) (note_in mask (cell_for cells n tag)) held
        ≡ next_of cells levels n before mask s i
    unfolding next_by_kind
    field_at h fresh short c =
        let t = short && short_contents (sc.means n tag) held in
        let f : t ≡ short_field sc n (drop i s) = ap (λ (x : Bool). x && short_contents (sc.means n tag) held) c ∙ short_field_is in
        rw fresh at (tested_at h t f)

    -- A field that repeats a single one.
    pub repeated_at : len ≤ length s - (i + size) → repeats sc n before tag ≡ true
        → Fault (cond (too_deep levels (sc.means n tag)) refusals.too_deep refusals.repeated) ≡ next_of cells levels n before mask s i
    repeated_at h again =
        go (too_deep levels (sc.means n tag)) ∙ rw again at (tested_at h (short_field sc n (drop i s)) refl)
      where
        go : (w : Bool) → Fault (cond w refusals.too_deep refusals.repeated) ≡ cond w (Fault refusals.too_deep) (Fault refusals.repeated)
        go true = refl
        go false = refl

-- ---- a field whose control part is one octet

module _ (cells : List ℕ) (number : ℕ) (s : List ℕ) (i : ℕ) where
  abbrev octet : ℕ
  octet = get_or s i 0

  abbrev len : ℕ
  len = bit_and octet 15

  len_is : len ≡ octet % 16
  len_is = and_mask octet 4

  -- No cell by the first test that fails.
  pub none_past : length s ≤ i → None ≡ small_cell cells number s i
  unfolding small_cell small_at
  none_past h = rw (le-ltb i (length s) h) refl

  module _ (h : i < length s) where
    pub none_by_tag : 224 ≤ octet → None ≡ small_cell cells number s i
    unfolding small_cell small_at
    none_by_tag t = rw (lt-ltb i (length s) h, le-ltb octet 224 t) refl

    module _ (t : octet < 224) where
      pub none_by_length : 12 ≤ len → None ≡ small_cell cells number s i
      unfolding small_cell small_at
      none_by_length l = rw (lt-ltb i (length s) h, lt-ltb octet 224 t, le-ltb (octet % 16) 12 (rw (← len_is) l)) refl

      module _ (l : len < 12) where
        pub none_by_end : length s < i + 1 + len → None ≡ small_cell cells number s i
        unfolding small_cell small_at
        none_by_end k =
            rw (lt-ltb i (length s) h, lt-ltb octet 224 t, lt-ltb (octet % 16) 12 (rw (← len_is) l), lt-leb (i + 1 + octet % 16) (length s) (rw (← len_is) k)) refl

        pub cell_found : i + 1 + len ≤ length s → Some (cell_for cells number (octet / 16)) ≡ small_cell cells number s i
        unfolding small_cell small_at
        cell_found k =
            rw (lt-ltb i (length s) h, lt-ltb octet 224 t, lt-ltb (octet % 16) 12 (rw (← len_is) l), le-leb (i + 1 + octet % 16) (length s) (rw (← len_is) k)) refl

-- What the test for such a field says of the octets.
record Small (s : List ℕ) (i : ℕ) : Type 0 where
  here : i < length s
  tag_small : get_or s i 0 < 224
  length_small : bit_and (get_or s i 0) 15 < 12
  fits : i + 1 + bit_and (get_or s i 0) 15 ≤ length s

module _ (s : List ℕ) (i : ℕ) (e : small_at s i ≡ true) where
  small : Small s i
  unfolding small_at
  small =
      let c = get_or s i 0 in
      let w = and_four (ltb i (length s)) (ltb c 224) (ltb (c % 16) 12) (leb (i + 1 + c % 16) (length s)) e in
      let m = and_mask c 4 in
      record {
        here = ltb-true i (length s) w.0;
        tag_small = ltb-true c 224 w.1;
        length_small = rw m (ltb-true (c % 16) 12 w.2);
        fits = rw m (leb-true (i + 1 + c % 16) (length s) w.3);
      }

  pub small_inside : (i < length s) × (i + 1 + bit_and (get_or s i 0) 15 ≤ length s)
  small_inside = (small.here, small.fits)

  small_control : control (drop i s) ≡ Whole (get_or s i 0 / 16) (bit_and (get_or s i 0) 15) 1
  small_control =
      let t = small.tag_small in
      let c = get_or s i 0 in
      sym (whole_direct (c / 16) (bit_and c 15) (take (length s - (i + 1)) (drop (i + 1) s)) (omega arith) small.length_small
      ∙ control_from s i (c / 16) (bit_and c 15) small.here (omega arith) refl refl)

  pub small_tag : tag_at (drop i s) ≡ get_or s i 0 / 16
  small_tag = tag_is (drop i s) (get_or s i 0 / 16) (bit_and (get_or s i 0) 15) 1 small_control

  -- The control octet is the least control part of its tag and length.
  small_short : short_control (drop i s) ≡ true
  small_short =
      let t = small.tag_small in
      let l = small.length_small in
      let m = and_mask (get_or s i 0) 4 in
      ap short_control (drop-cons s i 0 small.here) ∙ short_direct (get_or s i 0) _ (omega arith) (omega arith)

module _ (cells : List ℕ) (number : ℕ) (s : List ℕ) (i cell : ℕ) (e : Some cell ≡ small_cell cells number s i) where
  -- A cell says that there is such a field.
  pub cell_small : small_at s i ≡ true
  unfolding small_cell
  cell_small = go (small_at s i) e
    where
      go : (t : Bool) → Some cell ≡ cond t (Some (cell_for cells number (get_or s i 0 / 16))) None → t ≡ true
      go true f = refl
      go false f = let z : ◌≡◌ {A = ℕ} 0 1 = cc in absurd (omega arith)

  module _ (w : small_at s i ≡ true) where
    abbrev end : ℕ
    end = i + 1 + bit_and (get_or s i 0) 15

    abbrev inside : List ℕ
    inside = small_contents s i

    found_is : Some cell ≡ Some (cell_for cells number (get_or s i 0 / 16))
    unfolding small_cell
    found_is = rw w at e

    pub cell_is : cell ≡ cell_for cells number (tag_at (drop i s))
    cell_is =
        let f = found_is in
        let k : cell ≡ cell_for cells number (get_or s i 0 / 16) = cc in
        k ∙ ap (cell_for cells number) (sym (small_tag s i w))

    module _ (levels : ℕ) (before : List ℕ) (mask : ℕ) where
      -- A field that repeats a single one.
      pub small_repeats : repeats (indexed cells) number before (tag_at (drop i s)) ≡ true
          → Fault (cond (too_deep levels (meaning_in cell)) refusals.too_deep refusals.repeated) ≡ next_of cells levels number before mask s i
      unfolding indexed
      small_repeats again =
          let q = small s i w in
          let f = q.fits in
          rw (cell_is, small_tag s i w)
          (repeated_at s i (get_or s i 0 / 16) (bit_and (get_or s i 0) 15) 1 (small_control s i w) cells levels number before mask (omega arith) (rw (small_tag s i w) at again))

      module _ (fresh : repeats (indexed cells) number before (tag_at (drop i s)) ≡ false) where
        -- The step by the code and the contents.
        pub small_field : next_by_kind levels (meaning_in cell) (i + 1) (short_contents (meaning_in cell) inside) (note_in mask cell) inside
            ≡ next_of cells levels number before mask s i
        unfolding indexed
        small_field =
            let q = small s i w in
            let f = q.fits in
            rw (cell_is, small_tag s i w)
            (field_at s i (get_or s i 0 / 16) (bit_and (get_or s i 0) 15) 1 (small_control s i w) cells levels number before mask (omega arith)
            (rw (small_tag s i w) at fresh) true (sym (small_short s i w)))

-- The step at such a field by the code of its kind.
module _ (s : List ℕ) (i : ℕ) (w : small_at s i ≡ true) (levels code mask : ℕ) where
  abbrev small_end : ℕ
  small_end = i + 1 + bit_and (get_or s i 0) 15

  abbrev in_short : Bool
  in_short = short_contents (meaning_of code) (small_contents s i)

  abbrev by_code : Next
  by_code = next_by_kind levels (meaning_of code) (i + 1) in_short mask (small_contents s i)

  coded : {r : Next} → too_deep levels (meaning_of code) ≡ false
      → r ≡ next_at (i + 1) in_short mask (step_by_kind (meaning_of code) 0 (small_contents s i)) → r ≡ by_code
  coded d p = by_kind levels (meaning_of code) (i + 1) in_short mask (small_contents s i) d p

  span : (i + 1 ≤ small_end) × (small_end ≤ length s)
  span = (omega arith, (small_inside s i w).1)

  pub passed_next : (r : ℕ) → r ≡ small_end → code ≤ 4 → Passes code (i + 1) r s → Over r true mask ≡ by_code
  unfolding Passes
  passed_next r d h p =
      let q : Passes code (i + 1) small_end s = subst (λ (x : ℕ). Passes code (i + 1) x s) d p in
      ap (λ (x : ℕ). Over x true mask) d ∙ coded (deep_plain levels code h) (q mask)

  pub small_no_text : code ≡ 4 → NoText code s i → Fault 7 ≡ by_code
  unfolding NoText
  small_no_text f t = coded (deep_plain levels code (omega arith)) (no_text_at code s (i + 1) small_end span in_short mask f (t f))

  pub small_wide : 8 < small_end - (i + 1) → (code ≡ 1) ⊎ (code ≡ 2) → Fault 6 ≡ by_code
  small_wide l x =
      coded (deep_plain levels code (⊎_elim {C = code ≤ 4} (λ y. omega arith) (λ y. omega arith) x))
      (wide_at code s (i + 1) small_end span in_short mask l x)

  pub small_number : small_end - (i + 1) ≤ 8 → code < 4 → (b : Bool) → b ≡ in_short → Over small_end b mask ≡ by_code
  small_number l x b y =
      coded (deep_plain levels code (omega arith))
      (ap (λ (t : Bool). Over small_end t mask) y
      ∙ plain_at code s (i + 1) small_end span in_short mask x (λ z. absurd (omega arith)) (λ z. absurd (omega arith)))

  pub small_deep : levels ≡ 0 → 4 < code → Fault refusals.too_deep ≡ by_code
  small_deep z h = deep_refused levels (meaning_of code) (i + 1) in_short mask (small_contents s i) (rw z (deep_message code h))

  pub small_message : 1 ≤ levels → 4 < code → Into (code - 5) (i + 1) small_end true mask ≡ by_code
  small_message d h =
      coded (deep_never levels (meaning_of code) d)
      (ap (λ (t : Bool). Into (code - 5) (i + 1) small_end t mask) (sym (short_message code (small_contents s i) h))
      ∙ message_at code s (i + 1) small_end span in_short mask h)

-- ---- a field that passes by the code, where its contents start and where they end

module _ (code : ℕ) (s : List ℕ) (a e : ℕ) (h : (a ≤ e) × (e ≤ length s)) where
  pub text_passes : code ≡ 4 → text (take (e - a) (drop a s)) ≡ true → Passes code a e s
  unfolding Passes
  text_passes k t = λ mask. let b = take (e - a) (drop a s) in rw (short_text code b k) (text_at code s a e h true mask k t)

  -- Contents in their shortest form, and a number of at most eight octets.
  pub plain_passes : code < 4 → (8 < e - a → code ≡ 1 → ⊥) → (8 < e - a → code ≡ 2 → ⊥)
      → short_contents (meaning_of code) (take (e - a) (drop a s)) ≡ true → Passes code a e s
  unfolding Passes
  plain_passes k x y t = λ mask. rw t (plain_at code s a e h true mask k x y)

-- ---- the step that an answer comes from

pub record OverFrom (i e : ℕ) (b t : Bool) (p m : ℕ) (x : Step) : Type 0 where
  pub size : ℕ
  pub len : ℕ
  pub is : x ≡ steps.Over size len
  pub end_is : e ≡ i + size + len
  pub short_is : t ≡ b
  pub noted_is : m ≡ p

pub record IntoFrom (i n a e : ℕ) (b t : Bool) (p m : ℕ) (x : Step) : Type 0 where
  pub size : ℕ
  pub len : ℕ
  pub is : x ≡ steps.Into n size len
  pub start_is : a ≡ i + size
  pub end_is : e ≡ i + size + len
  pub short_is : t ≡ b
  pub noted_is : m ≡ p

unfoldable pub NextFrom : ℕ → Bool → ℕ → Step → Next → Type 0
NextFrom i b p x Done = x ≡ steps.Done
NextFrom i b p x (Fault reason) = x ≡ steps.Fault reason
NextFrom i b p x (Over e t m) = OverFrom i e b t p m x
NextFrom i b p x (Into n a e t m) = IntoFrom i n a e b t p m x

next_from : (i : ℕ) (b : Bool) (p : ℕ) (x : Step) → NextFrom i b p x (next_at i b p x)
unfolding next_at NextFrom
next_from i b p steps.Done = refl
next_from i b p (steps.Fault reason) = refl
next_from i b p (steps.Over k l) = record { size = k; len = l; is = refl; end_is = refl; short_is = refl; noted_is = refl }
next_from i b p (steps.Into m k l) = record { size = k; len = l; is = refl; start_is = refl; end_is = refl; short_is = refl; noted_is = refl }

module _ (cells : List ℕ) (levels n : ℕ) (before : List ℕ) (mask : ℕ) (s : List ℕ) (i : ℕ) where
  pub came_from : (r : Next) → next_of cells levels n before mask s i ≡ r
      → NextFrom i (short_field (indexed cells) n (drop i s)) (note_in mask (cell_for cells n (tag_at (drop i s)))) (step (indexed cells) levels n before (drop i s)) r
  unfolding next_of
  came_from r e =
      let b = short_field (indexed cells) n (drop i s) in
      let p = note_in mask (cell_for cells n (tag_at (drop i s))) in
      let x = step (indexed cells) levels n before (drop i s) in
      subst (NextFrom i b p x) e (next_from i b p x)
