-- The answer for a field, by its sizes and its place in the message.
use Prim.Native.Nat.{ℕ, ◌+◌, ◌-◌, ◌≤◌, ◌<◌}
use native.Mathlib.Omega.{arith}
use mathlib.Core.Path.{◌≡◌, refl, sym, ap, ◌∙◌}
use mathlib.Core.Bool.{Bool, true, false, cond, ◌||◌}
use mathlib.Core.List.{List, [], ◌∷◌}
use lib.ListN.{length, get_or, take, drop, length-drop}
use lib.Seq.{drop-drop, length-take-le}
use lib.Dec.{eqb}
use borrow.Author.Tests.{eq-eqb, ne_eqb}
use Rattle.octets.specs.Number.{big_endian}
use Rattle.octets.specs.internal.Bounded.{unsigned}
use Rattle.octets.proofs.Slices.{length_zero, tail_part}
use Rattle.octets.proofs.Number.{unsigned_is}
use Rattle.tib_msg_field.specs.declared.Sizes.{Sizes}
use Rattle.tib_msg_field.specs.Reading.{total, parts_at}
use Rattle.tib_real.specs.declared.types.Real.{Real}
use Rattle.tib_msg_field.specs.Layout.{kind, hinted}
use Rattle.tib_field.specs.declared.Hint.{Hint}
use Rattle.tib_field.specs.InNumbers.{hinted as hinted-numbers, hint_or_zeros}
use Rattle.std.specs.Bool.{then_some}
use Rattle.tib_msg.specs.CheckAndField.{hint_value, real_shown, shown}

pub first_none : (s : List ℕ) → length s ≡ 0 → 0 ≡ get_or s 0 0
first_none s h = rw (length_zero s h)

pub value_none : (k : ℕ) (s : List ℕ) → length s < 2 → 0 ≡ hint_value k s
unfolding hint_value big_endian
value_none k s h = go (eqb k 8 || eqb k 9) s h
  where
    go : (t : Bool) (s : List ℕ) → length s < 2 → 0 ≡ cond t (get_or s 1 0) (big_endian (drop 2 s))
    go true [] h = refl
    go true (x ∷ []) h = refl
    go true (x ∷ y ∷ s) h = absurd (omega arith)
    go false [] h = refl
    go false (x ∷ []) h = refl
    go false (x ∷ y ∷ s) h = absurd (omega arith)

pub value_array : (k : ℕ) (s : List ℕ) → k ≡ 8 → get_or s 1 0 ≡ hint_value k s
unfolding hint_value
value_array k s e = rw (eq-eqb k 8 e)

pub value_partial : (k : ℕ) (s : List ℕ) → (k ≡ 8 → ⊥) → k ≡ 9 → get_or s 1 0 ≡ hint_value k s
unfolding hint_value
value_partial k s d e = rw (ne_eqb k 8 d, eq-eqb k 9 e)

pub value_other : (k : ℕ) (s : List ℕ) → (k ≡ 8 → ⊥) → (k ≡ 9 → ⊥) → length s ≤ 10
    → unsigned (take (length s - 2) (drop 2 s)) ≡ hint_value k s
unfolding hint_value
value_other k s d e h =
    rw (ne_eqb k 8 d, ne_eqb k 9 e, tail_part s 2)
    (unsigned_is (drop 2 s) (rw (length-drop 2 s) (omega arith)))

-- Where the parts of a field stand in the message.
module _ (s : List ℕ) (at : ℕ) (z : Sizes) (inside : at + total z ≤ length s) where
  abbrev start : ℕ
  start = at + 2 + z.name + z.width

  abbrev hint : ℕ
  hint = start + z.contents

  from_data_lem : drop (1 + z.width) (drop (1 + z.name) (drop at s)) ≡ drop start s
  from_data_lem =
      let e : at + (1 + z.name + (1 + z.width)) ≡ start = omega arith in
      drop-drop (1 + z.width) (1 + z.name) (drop at s)
      ∙ drop-drop (1 + z.name + (1 + z.width)) at s
      ∙ ap (λ (n : ℕ). drop n s) e

  pub name_length : length (parts_at (drop at s) z).name ≡ z.name
  unfolding parts_at total
  name_length =
      let l = length-drop at s in
      let m = length-drop 1 (drop at s) in
      length-take-le z.name (drop 1 (drop at s)) (omega arith)

  octet_is : (parts_at (drop at s) z).octet ≡ z.octet
  unfolding parts_at
  octet_is = refl

  pub size_length : length (parts_at (drop at s) z).size ≡ z.width
  unfolding parts_at total
  size_length =
      let l = length-drop at s in
      let m = length-drop (1 + z.name) (drop at s) in
      let n = length-drop 1 (drop (1 + z.name) (drop at s)) in
      length-take-le z.width (drop 1 (drop (1 + z.name) (drop at s))) (omega arith)

  pub contents_are : (parts_at (drop at s) z).contents ≡ take (hint - start) (drop start s)
  unfolding parts_at
  contents_are =
      let e : hint - start ≡ z.contents = omega arith in
      rw (e, from_data_lem)

  pub contents_length : length (parts_at (drop at s) z).contents ≡ z.contents
  unfolding total
  contents_length =
      let e : hint - start ≡ z.contents = omega arith in
      let l = length-drop start s in
      ap length contents_are ∙ rw e (length-take-le z.contents (drop start s) (omega arith))

  pub hint_is : (parts_at (drop at s) z).hint ≡ take (hint + z.hint - hint) (drop hint s)
  unfolding parts_at
  hint_is =
      let e : hint + z.hint - hint ≡ z.hint = omega arith in
      rw (e, from_data_lem, drop-drop z.contents start s)

  pub shown_is : (k n first : ℕ) (present : Bool) (r : Real) → k ≡ kind z.octet → present ≡ hinted z.octet
      → n ≡ hint_value k (take (hint + z.hint - hint) (drop hint s)) → first ≡ get_or (take (hint + z.hint - hint) (drop hint s)) 0 0
      → r ≡ real_shown k (take (hint - start) (drop start s)) n present
      → record {
        refusal = 0;
        place = 0;
        name_place = at + 1;
        name_length = z.name;
        kind = k;
        data_place = start;
        data_length = z.contents;
        hinted = present;
        hint_kind = first;
        hint = n;
        real = r;
      } ≡ shown at (parts_at (drop at s) z)
  unfolding shown
  shown_is k n first present r a b c d e =
      rw (e, d, c, b, a, octet_is, name_length, size_length, contents_length, contents_are, hint_is)

  -- A hint of no octets has the type 0 and the value 0.
  pub no_hint : (k n first : ℕ) → z.hint ≡ 0 → n ≡ hint_value k (take (hint + z.hint - hint) (drop hint s))
      → first ≡ get_or (take (hint + z.hint - hint) (drop hint s)) 0 0 → ◌≡◌ {A = Hint} (record { kind = 0; value = 0 }) (record { kind = first; value = n })
  no_hint k n first e d g =
      let x : hint + z.hint - hint ≡ 0 = omega arith in
      let u : first ≡ 0 = rw x at g in
      let v : n ≡ 0 = rw x at d ∙ sym (value_none k [] (omega arith)) in
      rw (u, v)

-- A hint that is there where a test says so.
pub hint_told : (t : Bool) (h : Hint) → (t ≡ false → ◌≡◌ {A = Hint} (record { kind = 0; value = 0 }) h)
    → (hinted-numbers (then_some t h) ≡ t) × (hint_or_zeros (then_some t h) ≡ h)
hint_told true h e = (refl, refl)
hint_told false h e = (refl, e refl)
