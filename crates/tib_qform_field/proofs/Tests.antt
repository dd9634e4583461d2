-- The tests of `field_octets`, one by one: what each result is by the octets from the field on.
use Prim.Native.Nat.{ℕ, suc, ◌+◌, ◌-◌, ◌*◌, ◌≤◌, ◌<◌}
use native.Mathlib.Numerals.{add-one}
use native.Mathlib.Omega.{arith}
use mathlib.Core.Path.{◌≡◌, refl, ap, ◌∙◌}
use mathlib.Core.Bool.{true, false}
use mathlib.Core.List.{List, [], ◌∷◌}
use lib.ListN.{length, get_or, drop, length-drop, drop_of_length-le}
use lib.Seq.{drop-cons}
use borrow.Author.Tests.{lt-ltb, le-ltb, eq-eqb, ne_eqb}
use Rattle.tib_field.specs.Steps.{Fault, Over}
use Rattle.tib_qform_field.specs.Layout.{flagged, fid}
use Rattle.tib_qform_field.specs.internal.Octets.{by_half, octets_by}

-- A fid has 14 bits, where its second octet is an octet.
pub fid_small : (high low : ℕ) → low < 256 → fid high low < 16384
unfolding fid
fid_small high low h = omega arith

one_octet : (cells r : List ℕ) → 0 < length r → length r < 2 → Fault 3 ≡ octets_by cells r
unfolding octets_by
one_octet cells [] a b = absurd (omega arith)
one_octet cells (high ∷ []) a b = refl
one_octet cells (high ∷ low ∷ r) a b = absurd (omega arith)

-- The octets of s from an offset on.
module _ (cells s : List ℕ) (at : ℕ) where
  pub at_end : length s ≤ at → Over 0 ≡ octets_by cells (drop at s)
  unfolding octets_by
  at_end h = rw (drop_of_length-le s h)

  pub cut : at < length s → length s - at < 2 → Fault 3 ≡ octets_by cells (drop at s)
  cut h l = let d = length-drop at s in one_octet cells (drop at s) (omega arith) (omega arith)

  module _ (h : 2 ≤ length s - at) where
    -- They begin with the two octets of a FID.
    two : drop at s ≡ get_or s at 0 ∷ get_or s (at + 1) 0 ∷ drop (suc (at + 1)) s
    two =
        drop-cons s at 0 (omega arith)
        ∙ rw (← add-one at) (ap (λ (r : List ℕ). get_or s at 0 ∷ r) (drop-cons s (at + 1) 0 (omega arith)))

    remaining : 2 + length (drop (suc (at + 1)) s) ≡ length s - at
    remaining = let d = length-drop (suc (at + 1)) s in omega arith

    pub unflagged : flagged (get_or s at 0) ≡ false → Fault 16 ≡ octets_by cells (drop at s)
    unfolding octets_by
    unflagged e = rw (two, e)

    module _ (f : flagged (get_or s at 0) ≡ true) (number half : ℕ) (e : number ≡ fid (get_or s at 0) (get_or s (at + 1) 0)) (g : half ≡ get_or cells number 0) where
      by_half_lem : by_half half (length s - at) ≡ octets_by cells (drop at s)
      unfolding octets_by
      by_half_lem = rw (two, f, ← e, remaining, g)

      pub not_noted : half ≡ 0 → Fault 19 ≡ octets_by cells (drop at s)
      unfolding by_half
      not_noted z = rw (eq-eqb half 0 z) at by_half_lem

      module _ (z : half ≡ 0 → ⊥) where
        pub past_end : length s - at < half * 2 → Fault 4 ≡ octets_by cells (drop at s)
        unfolding by_half
        past_end l = rw (ne_eqb half 0 z, lt-ltb (length s - at) (half * 2) l) at by_half_lem

        pub measured : half * 2 ≤ length s - at → Over (half * 2) ≡ octets_by cells (drop at s)
        unfolding by_half
        measured l = rw (ne_eqb half 0 z, le-ltb (length s - at) (half * 2) l) at by_half_lem
