-- Laws of big-endian numbers and their least octets.
use Prim.Native.Nat.{ℕ, zero, suc, ◌+◌, ◌*◌, ◌/◌, ◌%◌, ◌^◌, ◌≤◌, ◌<◌}
use native.Mathlib.Nat.{pow-le-pow_right, pow-suc, mul_comm, suc_inj, mod-eq_of_lt, lt_of_lt_of_le, lt_of_le_of_lt}
use native.Mathlib.Omega.{arith}
use mathlib.Core.Path.{◌≡◌, refl, sym, ap, ap₂, ◌∙◌}
use mathlib.Core.Bool.{Bool, true, false, cond, ◌&&◌}
use mathlib.Core.List.{List, [], ◌∷◌, ◌++◌}
use lib.ListN.{length, get_or, take, drop, length-append, take-append-drop}
use lib.Arith.{digits_div, digits_mod, mod-mul, digits_lt}
use lib.Pow.{pow-add}
use lib.Dec.{leb, ltb}
use borrow.Author.Tests.{leb-true, leb-false, le-leb, ltb-true}
use Rattle.octets.specs.declared.Least.{Least}
use Rattle.octets.specs.Number.{Octets, big_endian, octets_of, width, width_within, least_uint}
use Rattle.octets.specs.internal.Least.{uint_width_bits}
use Rattle.octets.specs.internal.Bounded.{unsigned}
use Rattle.octets.proofs.Bools.{and_left, and_right}

pub power_positive : (n : ℕ) → 0 < 256 ^ n
power_positive zero = omega arith
power_positive (suc n) = let h = power_positive n in rw pow-suc (omega arith)

pub power_grows : (n m : ℕ) → n ≤ m → 256 ^ n ≤ 256 ^ m
power_grows n m h = pow-le-pow_right (omega arith) h

-- An octet has eight bits.
pub two_to_eights : (n : ℕ) → 2 ^ (8 * n) ≡ 256 ^ n
two_to_eights zero = refl
two_to_eights (suc n) =
    let e : 8 * suc n ≡ 8 * n + 8 = omega arith in
    rw (e, pow-add 2 (8 * n) 8, two_to_eights n, pow-suc 256 n)

-- Whether all numbers of a list are octets, as a test that computes.
unfoldable pub all_below256 : List ℕ → Bool
all_below256 [] = true
all_below256 (x ∷ s) = ltb x 256 && all_below256 s

pub are_octets : (s : List ℕ) → all_below256 s ≡ true → Octets s
unfolding all_below256 Octets
are_octets [] e = tt
are_octets (x ∷ s) e = (ltb-true x 256 (and_left (ltb x 256) (all_below256 s) e), are_octets s (and_right (ltb x 256) (all_below256 s) e))

pub octets_append : (s t : List ℕ) → Octets s → Octets t → Octets (s ++ t)
unfolding Octets
octets_append [] t a b = b
octets_append (x ∷ s) t a b = (a.0, octets_append s t a.1 b)

pub octets_before : (s t : List ℕ) → Octets (s ++ t) → Octets s
unfolding Octets
octets_before [] t h = tt
octets_before (x ∷ s) t h = (h.0, octets_before s t h.1)

pub octets_after : (s t : List ℕ) → Octets (s ++ t) → Octets t
unfolding Octets
octets_after [] t h = h
octets_after (x ∷ s) t h = octets_after s t h.1

-- The elements of a slice of octets are octets.
pub octets_of_slice : (s : List ℕ) → ((i : ℕ) → get_or s i 0 < 256) → Octets s
unfolding Octets
octets_of_slice [] h = tt
octets_of_slice (x ∷ s) h = (h 0, octets_of_slice s (λ i. h (suc i)))

-- A part of octets that starts anywhere has octets.
pub octets_part : (n i : ℕ) (s : List ℕ) → Octets s → Octets (take n (drop i s))
octets_part n i s o =
    octets_before (take n (drop i s)) (drop n (drop i s))
    (rw (take-append-drop n (drop i s)) (octets_after (take i s) (drop i s) (rw (take-append-drop i s) o)))

pub number_append : (s t : List ℕ) → big_endian (s ++ t) ≡ big_endian s * 256 ^ length t + big_endian t
unfolding big_endian
number_append [] t = omega arith
number_append (x ∷ s) t =
    rw (number_append s t, length-append s t, pow-add 256 (length s) (length t)) (omega arith)

-- One octet more at the end.
pub number_snoc : (s : List ℕ) (x : ℕ) → big_endian (s ++ (x ∷ [])) ≡ big_endian s * 256 + x
unfolding big_endian
number_snoc s x = rw (number_append s (x ∷ [])) (omega arith)

pub number_below : (s : List ℕ) → Octets s → big_endian s < 256 ^ length s
unfolding big_endian Octets
number_below [] h = omega arith
number_below (x ∷ s) h =
    rw (pow-suc 256 (length s), mul_comm (256 ^ length s) 256) (digits_lt h.0 (number_below s h.1))

-- A number has one digit above a base and one remainder below it.
pub digits_same : (p x y a b : ℕ) → a < p → b < p → x * p + a ≡ y * p + b → (x ≡ y) × (a ≡ b)
digits_same p x y a b ha hb e = (
  sym (digits_div x ha) ∙ ap (λ (n : ℕ). n / p) e ∙ digits_div y hb,
  sym (digits_mod x ha) ∙ ap (λ (n : ℕ). n % p) e ∙ digits_mod y hb,
)

-- Few octets hold a number of 64 bits.
pub number_below_most : (s : List ℕ) (n : ℕ) → Octets s → length s ≤ n → big_endian s < 256 ^ n
number_below_most s n o h = lt_of_lt_of_le (number_below s o) (power_grows (length s) n h)

-- Octets of one length that hold the same number are the same.
pub number_injective : (s t : List ℕ) → Octets s → Octets t → length s ≡ length t → big_endian s ≡ big_endian t → s ≡ t
unfolding big_endian Octets
number_injective [] [] a b l e = refl
number_injective [] (y ∷ t) a b l e = absurd (omega arith)
number_injective (x ∷ s) [] a b l e = absurd (omega arith)
number_injective (x ∷ s) (y ∷ t) a b l e =
    let k : length s ≡ length t = suc_inj l in
    let f : x * 256 ^ length t + big_endian s ≡ y * 256 ^ length t + big_endian t = rw k at e in
    let h : big_endian s < 256 ^ length t = rw k at (number_below s a.1) in
    let d = digits_same (256 ^ length t) x y (big_endian s) (big_endian t) h (number_below t b.1) f in
    ap₂ (λ (z : ℕ) (r : List ℕ). z ∷ r) d.0 (number_injective s t a.1 b.1 k d.1)

pub length_octets_of : (n v : ℕ) → length (octets_of n v) ≡ n
unfolding octets_of
length_octets_of zero v = refl
length_octets_of (suc n) v = ap suc (length_octets_of n v)

pub octets_octets_of : (n v : ℕ) → Octets (octets_of n v)
unfolding octets_of Octets
octets_octets_of zero v = tt
octets_octets_of (suc n) v = (omega arith, octets_octets_of n v)

number_octets_of_mod : (n v : ℕ) → big_endian (octets_of n v) ≡ v % 256 ^ n
unfolding big_endian octets_of
number_octets_of_mod zero v = omega arith
number_octets_of_mod (suc n) v =
    rw (number_octets_of_mod n v, length_octets_of n v, pow-suc 256 n, mul_comm (256 ^ n) 256)
    (sym (mod-mul v (omega arith) (power_positive n)))

pub number_octets_of : (n v : ℕ) → v < 256 ^ n → big_endian (octets_of n v) ≡ v
number_octets_of n v h = number_octets_of_mod n v ∙ mod-eq_of_lt h

-- A power above another has the larger exponent.
pub power_above : (n m : ℕ) → 256 ^ n < 256 ^ m → n < m
power_above n m h = go (leb m n) refl
  where
    go : (t : Bool) → leb m n ≡ t → n < m
    go true e = let g = power_grows m n (leb-true m n e) in absurd (omega arith)
    go false e = leb-false m n e

width_within_holds : (m v : ℕ) → v < 256 ^ m → v < 256 ^ width_within m v
unfolding width_within
width_within_holds zero v h = h
width_within_holds (suc m) v h = go (leb (256 ^ m) v) refl (width_within_holds m v)
  where
    go : (t : Bool) → leb (256 ^ m) v ≡ t → (v < 256 ^ m → v < 256 ^ width_within m v) → v < 256 ^ cond t (suc m) (width_within m v)
    go true e below = h
    go false e below = below (leb-false (256 ^ m) v e)

width_within_least : (m v n : ℕ) → v < 256 ^ n → width_within m v ≤ n
unfolding width_within
width_within_least zero v n h = omega arith
width_within_least (suc m) v n h = go (leb (256 ^ m) v) refl (width_within_least m v n h)
  where
    go : (t : Bool) → leb (256 ^ m) v ≡ t → width_within m v ≤ n → cond t (suc m) (width_within m v) ≤ n
    go true e below = let g = leb-true (256 ^ m) v e in power_above m n (omega arith)
    go false e below = below

width_within_bound : (m v : ℕ) → width_within m v ≤ m
unfolding width_within
width_within_bound zero v = omega arith
width_within_bound (suc m) v = go (leb (256 ^ m) v) (width_within_bound m v)
  where
    go : (t : Bool) → width_within m v ≤ m → cond t (suc m) (width_within m v) ≤ suc m
    go true below = omega arith
    go false below = omega arith

pub width_holds : (v : ℕ) → v < 256 ^ 8 → v < 256 ^ width v
unfolding width
width_holds v h = width_within_holds 8 v h

pub width_least : (v n : ℕ) → v < 256 ^ n → width v ≤ n
unfolding width
width_least v n h = width_within_least 8 v n h

pub width_bound : (v : ℕ) → width v ≤ 8
unfolding width
width_bound v = width_within_bound 8 v

-- A number of 64 bits that n octets do not hold needs more.
pub width_above : (v n : ℕ) → v < 256 ^ 8 → 256 ^ n ≤ v → n < width v
width_above v n fits h = power_above n (width v) (lt_of_le_of_lt h (width_holds v fits))

-- The least octets of a uint hold it.
pub number_least_uint : (v : ℕ) → v < 256 ^ 8 → big_endian (least_uint v) ≡ v
unfolding least_uint
number_least_uint v h = number_octets_of (width v) v (width_holds v h)

pub length_least_uint : (v : ℕ) → length (least_uint v) ≡ width v
unfolding least_uint
length_least_uint v = length_octets_of (width v) v

pub octets_least_uint : (v : ℕ) → Octets (least_uint v)
unfolding least_uint
octets_least_uint v = octets_octets_of (width v) v

-- Where a field may have as many octets, its number is read.
pub unsigned_is : (s : List ℕ) → length s ≤ 8 → unsigned s ≡ big_endian s
unfolding unsigned
unsigned_is s h = rw (le-leb (length s) 8 h)

-- The octets of a least form are the least octets.
pub uint_octets : (r : Least) (v : ℕ) → r ≡ uint_width_bits v → octets_of r.width r.bits ≡ least_uint v
unfolding uint_width_bits least_uint
uint_octets r v e = rw e
