-- What the reading finds at the front of octets, test by test.
use Prim.Native.Nat.{ℕ, suc, ◌-◌, ◌≤◌, ◌<◌}
use native.Mathlib.Omega.{arith}
use mathlib.Core.Path.{◌≡◌, refl, ◌∙◌}
use mathlib.Core.Bool.{cond}
use mathlib.Core.List.{List, [], ◌∷◌}
use lib.ListN.{length, get_or, take, drop, length-drop, length-take}
use lib.Seq.{length-take-le}
use lib.Dec.{ltb}
use borrow.Author.Tests.{lt-ltb, le-ltb, ne_eqb}
use Rattle.octets.specs.Number.{Octets, big_endian}
use Rattle.octets.specs.internal.Bounded.{unsigned}
use Rattle.octets.proofs.Slices.{length_zero, tail_part, front_part}
use Rattle.octets.proofs.Number.{unsigned_is, octets_part, number_below_most}
use Rattle.tib_rv_field.specs.Reading.{Step, Fault, following, counted, from_count, from_size, from_type}

pub size_none : (n c : ℕ) (s : List ℕ) → length s ≡ 0 → Fault 3 ≡ from_size n c s
unfolding from_size
size_none n c s h = rw (length_zero s h)

size_some : (n c : ℕ) (s : List ℕ) (m : ℕ) → (length s ≡ 0 → ⊥) → m ≡ get_or s 0 0
    → cond (ltb 0x7a m) (Fault 16)
    (cond (ltb (length s - 1) (following m)) (Fault 3) (from_count n c m (counted m (drop 1 s)) (length s - 1 - following m))) ≡ from_size n c s
unfolding from_size
size_some n c [] m h e = absurd (h refl)
size_some n c (x ∷ s) m h e = let l : suc (length s) - 1 ≡ length s = omega arith in rw (l, e)

abbrev long : ℕ → ℕ → ℕ → ℕ → List ℕ → Step
long n c m w s = cond (ltb (length s) w) (Fault 3) (from_count n c m (big_endian (take w s)) (length s - w))

module _ (n c : ℕ) (s : List ℕ) (m : ℕ) (h : length s ≡ 0 → ⊥) (e : m ≡ get_or s 0 0) where
  pub marker_bad : 0x7a < m → Fault 16 ≡ from_size n c s
  marker_bad g = rw (lt-ltb 0x7a m g) at (size_some n c s m h e)

  pub size_short : m < 0x79 → from_count n c m m (length s - 1) ≡ from_size n c s
  unfolding following counted
  size_short g =
      let a : length s - 1 - 0 ≡ length s - 1 = omega arith in
      rw (le-ltb 0x7a m (omega arith), ne_eqb m 0x79 (λ z. omega arith), ne_eqb m 0x7a (λ z. omega arith), le-ltb (length s - 1) 0 (omega arith), lt-ltb m 0x79 g, a) at
      (size_some n c s m h e)

  pub size_long : (w : ℕ) → 0x79 ≤ m → m ≤ 0x7a → w ≡ following m → long n c m w (take (length s - 1) (drop 1 s)) ≡ from_size n c s
  unfolding counted
  size_long w g low f =
      rw (tail_part s 1, length-drop 1 s, f)
      (rw (le-ltb 0x7a m low, le-ltb m 0x79 g) at (size_some n c s m h e))

pub follows_79 : (m : ℕ) → m ≡ 0x79 → 2 ≡ following m
unfolding following
follows_79 m e = rw e

pub follows_7a : (m : ℕ) → m ≡ 0x7a → 4 ≡ following m
unfolding following
follows_7a m e = rw e

-- The size octets that follow the first.
module _ (n c m w : ℕ) (s : List ℕ) where
  pub long_cut : length s < w → Fault 3 ≡ long n c m w s
  long_cut g = rw (lt-ltb (length s) w g)

  pub long_whole : w ≤ length s → w ≤ 4 → (k : ℕ) → k ≡ unsigned (take (w - 0) (drop 0 s)) → from_count n c m k (length s - w) ≡ long n c m w s
  long_whole g few k r =
      let d = length-take-le w s g in
      let a : k ≡ big_endian (take w s) = r ∙ rw (front_part s w) (unsigned_is (take w s) (omega arith)) in
      rw (le-ltb (length s) w g, a)

-- The value of a size's octets is small.
pub long_small : (w : ℕ) (s : List ℕ) → Octets s → w ≤ 4 → (k : ℕ) → k ≡ unsigned (take (w - 0) (drop 0 s)) → k < 4294967296
long_small w s o few k r =
    let a = length-take w s in
    let b = number_below_most (take (w - 0) (drop 0 s)) 4 (octets_part (w - 0) 0 s o) (rw (front_part s w) (omega arith)) in
    let c : k ≡ big_endian (take (w - 0) (drop 0 s)) = r ∙ unsigned_is (take (w - 0) (drop 0 s)) (rw (front_part s w) (omega arith)) in
    omega arith

pub type_cut : (n : ℕ) (s : List ℕ) → length s ≡ 0 → Fault 3 ≡ from_type n s
unfolding from_type
type_cut n s h = rw (length_zero s h)

type_some : (n : ℕ) (s : List ℕ) → (length s ≡ 0 → ⊥) → from_size n (get_or s 0 0) (drop 1 s) ≡ from_type n s
unfolding from_type
type_some n [] h = absurd (h refl)
type_some n (c ∷ s) h = refl

pub type_whole : (n : ℕ) (s : List ℕ) → (length s ≡ 0 → ⊥) → from_size n (get_or s 0 0) (take (length s - 1) (drop 1 s)) ≡ from_type n s
type_whole n s h = rw (tail_part s 1) (type_some n s h)
