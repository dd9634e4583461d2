-- Laws for saying whether what is read is the shortest form.
use Prim.Native.Nat.{ℕ, ◌+◌, ◌-◌, ◌/◌, ◌≤◌, ◌<◌}
use native.Mathlib.Omega.{arith}
use mathlib.Core.Path.{◌≡◌, refl, sym, ap, ◌∙◌}
use mathlib.Core.Bool.{Bool, true, false, ◌&&◌, and-true}
use mathlib.Core.List.{List, ◌∷◌}
use lib.Bits.{bit_and, and_mask}
use lib.Dec.{leb}
use lib.ListN.{length, get_or, take, drop}
use borrow.Author.Tests.{le-leb}
use Rattle.octets.specs.Number.{Octets}
use Rattle.octets.specs.ControlPart.{Code, tag_code, length_code}
use Rattle.octets.specs.Control.{control_of, control}
use Rattle.octets.specs.declared.Control.TheVariants.{Whole}
use Rattle.octets.specs.Short.{short_part, short_control}
use Rattle.octets.specs.internal.Least.{least_of_lead, least_leads}
use Rattle.octets.proofs.Slices.{length_zero, tail_part}
use Rattle.octets.proofs.Number.{octets_part}
use Rattle.octets.proofs.Short.{short_control_lem}
use Rattle.octets_read.proofs.Leads.{octets_at, control_from, whole_tag, whole_length}

-- A direct number has the lead that it is.
pub least_direct : (code : Code) (t : ℕ) → t < code.direct → true ≡ leb (least_of_lead code t) t
unfolding least_of_lead
least_direct code t h = rw (le-leb t code.direct (omega arith)) (sym (le-leb t t (omega arith)))

pub least_at : (code : Code) (t k n v : ℕ) → t ≡ k → n ≡ least_of_lead code k → leb n v ≡ leb (least_of_lead code t) v
least_at code t k n v e f = rw (e, f) refl

-- Both leads of a control part that was read.
pub both_least : (t l a b size : ℕ) (p q : Bool) → p ≡ leb (least_of_lead tag_code t) a → q ≡ leb (least_of_lead length_code l) b
    → p && q ≡ least_leads t l (Whole a b size)
unfolding least_leads
both_least t l a b size p q e f = rw (e, f) refl

-- A tag in the octet after the lead 14 is the shortest form from 14 on; a direct length is one.
least_tag : (x l : ℕ) (s : List ℕ) → l < 12 → leb 14 x ≡ least_leads 14 l (control_of 14 l (x ∷ s))
unfolding least_of_lead
least_tag x l s h =
    sym (and-true (leb 14 x)) ∙ both_least 14 l x l 2 (leb 14 x) true refl (least_direct length_code l h)
    ∙ ap (least_leads 14 l) (whole_tag x l s h)

-- A length in the octet after the lead 12 is the shortest form from 12 on; a direct tag is one.
least_length : (t x : ℕ) (s : List ℕ) → t < 14 → leb 12 x ≡ least_leads t 12 (control_of t 12 (x ∷ s))
unfolding least_of_lead
least_length t x s h =
    both_least t 12 t x 2 true (leb 12 x) (least_direct tag_code t h) refl ∙ ap (least_leads t 12) (whole_length t x s h)

pub short_none : (s : List ℕ) → length s ≡ 0 → false ≡ short_control s
unfolding short_control short_part control
short_none s h = sym (ap short_control (length_zero s h))

pub short_octet : (x t l : ℕ) (s : List ℕ) → x < 256 → Octets s → t ≡ x / 16 → l ≡ bit_and x 15
    → least_leads t l (control_of t l s) ≡ short_control (x ∷ s)
short_octet x t l s h o p q = rw (p, q ∙ and_mask x 4) (sym (short_control_lem x s h o))

-- A control part of two octets at an offset.
module _ (s : List ℕ) (i x t l : ℕ) (inside : i + 1 < length s) (small : get_or s i 0 < 256) (p : x ≡ get_or s (i + 1) 0) (q : t ≡ get_or s i 0 / 16)
    (r : l ≡ bit_and (get_or s i 0) 15) where
  from_second : x ∷ take (length s - (i + 1 + 1)) (drop (i + 1 + 1) s) ≡ take (length s - (i + 1)) (drop (i + 1) s)
  from_second = rw p (octets_at s (i + 1) inside ∙ sym (tail_part s (i + 1)))

  two_at : (a b : ℕ) → ((rest : List ℕ) → Whole a b 2 ≡ control_of t l (x ∷ rest)) → Whole a b 2 ≡ control (drop i s)
  two_at a b w = w _ ∙ ap (control_of t l) from_second ∙ control_from s i t l (omega arith) (omega arith) q r

  short_two_at : (y : Bool) → ((rest : List ℕ) → y ≡ least_leads t l (control_of t l (x ∷ rest))) → Octets s → y ≡ short_control (drop i s)
  short_two_at y w o =
      w _ ∙ ap (λ (z : List ℕ). least_leads t l (control_of t l z)) from_second
      ∙ short_octet (get_or s i 0) t l _ small (octets_part (length s - (i + 1)) (i + 1) s o) q r
      ∙ ap short_control (octets_at s i (omega arith))

-- With the tag in the second and a direct length.
module _ (s : List ℕ) (i x l : ℕ) (inside : i + 1 < length s) (low : 0xe0 ≤ get_or s i 0) (high : get_or s i 0 < 0xec) (p : x ≡ get_or s (i + 1) 0)
    (r : l ≡ bit_and (get_or s i 0) 15) where
  direct_length : l < 12
  direct_length = let m = and_mask (get_or s i 0) 4 in omega arith

  pub tag_at : Whole x l 2 ≡ control (drop i s)
  tag_at = two_at s i x 14 l inside (omega arith) p (omega arith) r x l (λ rest. whole_tag x l rest direct_length)

  pub short_tag_at : Octets s → leb 14 x ≡ short_control (drop i s)
  short_tag_at = short_two_at s i x 14 l inside (omega arith) p (omega arith) r (leb 14 x) (λ rest. least_tag x l rest direct_length)

-- With a direct tag and the length in the second.
module _ (s : List ℕ) (i x t : ℕ) (inside : i + 1 < length s) (high : get_or s i 0 < 0xe0) (p : x ≡ get_or s (i + 1) 0) (q : t ≡ get_or s i 0 / 16)
    (r : bit_and (get_or s i 0) 15 ≡ 12) where
  pub length_at : Whole t x 2 ≡ control (drop i s)
  length_at = two_at s i x t 12 inside (omega arith) p q (sym r) t x (λ rest. whole_length t x rest (omega arith))

  pub short_length_at : Octets s → leb 12 x ≡ short_control (drop i s)
  short_length_at = short_two_at s i x t 12 inside (omega arith) p q (sym r) (leb 12 x) (λ rest. least_length t x rest (omega arith))
