-- Laws of signed numbers and their least octets.
use Prim.Native.Nat.{ℕ, zero, suc, ◌+◌, ◌*◌, ◌-◌, ◌%◌, ◌^◌, ◌≤◌, ◌<◌}
use native.Mathlib.Nat.{pow-suc, mul_comm, one-mul, mul-le-mul_right, mod-eq_of_lt, mod_self, mod-lt, lt_of_lt_of_le, eq-or-lt_of_le}
use native.Mathlib.Omega.{arith}
use mathlib.Core.Logic.{⊎_elim}
use mathlib.Core.Path.{◌≡◌, refl, sym, ap, ◌∙◌}
use mathlib.Core.Bool.{Bool, true, false}
use mathlib.Core.List.{List, [], ◌∷◌}
use lib.ListN.{length}
use lib.IntN.{ℤ, pos, negsuc, neg_ℤ}
use lib.Signed.{mag}
use lib.Arith.{digits_lt}
use lib.Pow.{pow-add}
use lib.Dec.{leb}
use borrow.Author.Tests.{leb-true, leb-false, le-leb}
use Rattle.octets.specs.declared.Least.{Least}
use Rattle.octets.specs.Number.{Octets, big_endian, octets_of, width, width_within}
use Rattle.octets.specs.Signed.{lowest, with_sign, integer, signed_width, signed_bits, least_int}
use Rattle.octets.specs.internal.Least.{int_width_bits}
use Rattle.octets.specs.internal.Bounded.{signed}
use Rattle.octets.proofs.Number.{two_to_eights, power_positive, power_grows, number_below, number_octets_of, octets_octets_of, length_octets_of, number_injective, width_least, width_holds}
use Rattle.octets.proofs.Shorter.{no_shorter_self}
use Rattle.octets.specs.NoShorter.{NoShorter}

-- Half of what n octets can hold.
pub lowest_half : (n : ℕ) → lowest (suc n) ≡ 128 * 256 ^ n
unfolding lowest
lowest_half n =
    let e : 8 * suc n - 1 ≡ 8 * n + 7 = omega arith in
    rw (e, pow-add 2 (8 * n) 7, two_to_eights n, mul_comm (256 ^ n) 128)

pub lowest_twice : (n : ℕ) → 2 * lowest (suc n) ≡ 256 ^ suc n
lowest_twice n = rw (lowest_half n, pow-suc 256 n) (omega arith)

lowest_positive : (n : ℕ) → 0 < lowest (suc n)
lowest_positive n = let h = power_positive n in rw (lowest_half n) (omega arith)

-- The lowest number of at most eight octets.
pub lowest_bounds : (n : ℕ) → 0 < n → n ≤ 8 → (0 < lowest n) × (lowest n ≤ 2 ^ 63)
lowest_bounds zero a b = absurd (omega arith)
lowest_bounds (suc n) a b =
    let e = lowest_half n in
    let g = power_grows n 7 (omega arith) in
    let p = power_positive n in
    (omega arith, omega arith)

-- What the machine makes of `1 << (8 * n - 1)`.
pub lowest_is : (n : ℕ) → 0 < n → n ≤ 8 → (1 * 2 ^ (8 * n - 1)) % 2 ^ 64 ≡ lowest n
unfolding lowest
lowest_is n a b = let h = lowest_bounds n a b in rw (one-mul (2 ^ (8 * n - 1))) (mod-eq_of_lt (omega arith))

-- Octets whose leftmost bit is clear.
integer_of_small : (x : ℕ) (s : List ℕ) → big_endian (x ∷ s) < lowest (suc (length s)) → integer (x ∷ s) ≡ pos (big_endian (x ∷ s))
unfolding integer big_endian with_sign
integer_of_small x s h = go (leb 128 x) refl
  where
    go : (t : Bool) → leb 128 x ≡ t → with_sign (suc (length s)) t (x % 128 * 256 ^ length s + big_endian s) ≡ pos (x * 256 ^ length s + big_endian s)
    go true e =
        let k = mul-le-mul_right (256 ^ length s) (leb-true 128 x e) in
        let l = lowest_half (length s) in
        absurd (omega arith)
    go false e = let k : x % 128 ≡ x = mod-eq_of_lt (leb-false 128 x e) in rw k

-- Octets whose leftmost bit is set.
integer_of_large : (x : ℕ) (s : List ℕ) (m : ℕ) → Octets (x ∷ s) → big_endian (x ∷ s) ≡ lowest (suc (length s)) + m
    → integer (x ∷ s) ≡ with_sign (suc (length s)) true m
unfolding integer big_endian Octets
integer_of_large x s m o e = go (leb 128 x) refl
  where
    go : (t : Bool) → leb 128 x ≡ t → with_sign (suc (length s)) t (x % 128 * 256 ^ length s + big_endian s) ≡ with_sign (suc (length s)) true m
    go true t =
        let k = leb-true 128 x t in
        let l = lowest_half (length s) in
        let b = o.0 in
        let y : x ≡ 128 + x % 128 = omega arith in
        let f : x * 256 ^ length s ≡ 128 * 256 ^ length s + x % 128 * 256 ^ length s = ap (λ (n : ℕ). n * 256 ^ length s) y ∙ omega arith in
        ap (with_sign (suc (length s)) true) (omega arith)
    go false t =
        let k : x * 256 ^ length s + big_endian s < 128 * 256 ^ length s = digits_lt (leb-false 128 x t) (number_below s o.1) in
        let l = lowest_half (length s) in
        absurd (omega arith)

-- The value and the bits of octets, by the two cases of their leftmost bit.
data Halves (n : ℕ) (s : List ℕ) : Type 0 where
  small : big_endian s < lowest n → integer s ≡ pos (big_endian s) → Halves n s
  large : (m : ℕ) → m < lowest n → big_endian s ≡ lowest n + m → integer s ≡ with_sign n true m → Halves n s

halves : (x : ℕ) (s : List ℕ) → Octets (x ∷ s) → Halves (suc (length s)) (x ∷ s)
halves x s o = go (leb (lowest (suc (length s))) (big_endian (x ∷ s))) refl
  where
    go : (t : Bool) → leb (lowest (suc (length s))) (big_endian (x ∷ s)) ≡ t → Halves (suc (length s)) (x ∷ s)
    go true e =
        let k = leb-true (lowest (suc (length s))) (big_endian (x ∷ s)) e in
        let b = number_below (x ∷ s) o in
        let w = lowest_twice (length s) in
        let m = big_endian (x ∷ s) - lowest (suc (length s)) in
        let f : big_endian (x ∷ s) ≡ lowest (suc (length s)) + m = omega arith in
        large m (omega arith) f (integer_of_large x s m o f)
    go false e = let k = leb-false (lowest (suc (length s))) (big_endian (x ∷ s)) e in small k (integer_of_small x s k)

-- A set sign over a magnitude below half.
mag_with_sign : (n m : ℕ) → m < lowest (suc n) → mag (with_sign (suc n) true m) < lowest (suc n)
unfolding with_sign
mag_with_sign n zero h = go (lowest (suc n)) h
  where
    go : (l : ℕ) → 0 < l → mag (neg_ℤ (pos l)) < l
    go zero h = h
    go (suc l) h = omega arith
mag_with_sign n (suc m) h = omega arith

bits_with_sign : (n m : ℕ) → m < lowest (suc n) → signed_bits (suc n) (with_sign (suc n) true m) ≡ lowest (suc n) + m
unfolding with_sign signed_bits
bits_with_sign n zero h = go (lowest (suc n)) refl h
  where
    go : (l : ℕ) → lowest (suc n) ≡ l → 0 < l → signed_bits (suc n) (neg_ℤ (pos l)) ≡ l + 0
    go zero e h = absurd (omega arith)
    go (suc l) e h = rw (e, mod_self (suc l))
bits_with_sign n (suc m) h = rw (mod-eq_of_lt h)

pub mag_integer : (x : ℕ) (s : List ℕ) → Octets (x ∷ s) → mag (integer (x ∷ s)) < lowest (suc (length s))
mag_integer x s o = go (halves x s o)
  where
    go : Halves (suc (length s)) (x ∷ s) → mag (integer (x ∷ s)) < lowest (suc (length s))
    go (small h e) = rw e h
    go (large m h f e) = rw e (mag_with_sign (length s) m h)

pub bits_integer : (x : ℕ) (s : List ℕ) → Octets (x ∷ s) → signed_bits (suc (length s)) (integer (x ∷ s)) ≡ big_endian (x ∷ s)
bits_integer x s o = go (halves x s o)
  where
    go : Halves (suc (length s)) (x ∷ s) → signed_bits (suc (length s)) (integer (x ∷ s)) ≡ big_endian (x ∷ s)
    go (small h e) = rw e (unfold signed_bits in refl)
    go (large m h f e) = rw e (bits_with_sign (length s) m h ∙ sym f)

-- The width of a signed number is the least that holds it.
pub signed_width_least : (z : ℤ) (n : ℕ) → mag z < lowest (suc n) → signed_width z ≤ suc n
unfolding signed_width
signed_width_least (pos v) n h = let w = lowest_twice n in width_least (2 * v) (suc n) (omega arith)
signed_width_least (negsuc k) n h = let w = lowest_twice n in width_least (2 * k + 1) (suc n) (omega arith)

signed_width_holds : (z : ℤ) (n : ℕ) → mag z < lowest 8 → signed_width z ≡ suc n → mag z < lowest (suc n)
unfolding signed_width
signed_width_holds (pos v) n h e =
    let w = lowest_twice n in
    let w8 = lowest_twice 7 in
    let k : 2 * v < 256 ^ suc n = rw e at (width_holds (2 * v) (omega arith)) in
    omega arith
signed_width_holds (negsuc k) n h e =
    let w = lowest_twice n in
    let w8 = lowest_twice 7 in
    let k : 2 * k + 1 < 256 ^ suc n = rw e at (width_holds (2 * k + 1) (omega arith)) in
    omega arith

signed_width_zero : (z : ℤ) → mag z < lowest 8 → signed_width z ≡ 0 → z ≡ pos 0
unfolding signed_width
signed_width_zero (pos v) h e =
    let w8 = lowest_twice 7 in
    let k : 2 * v < 256 ^ 0 = rw e at (width_holds (2 * v) (omega arith)) in
    ap pos (omega arith)
signed_width_zero (negsuc k) h e =
    let w8 = lowest_twice 7 in
    let k : 2 * k + 1 < 256 ^ 0 = rw e at (width_holds (2 * k + 1) (omega arith)) in
    absurd (omega arith)

bits_below : (z : ℤ) (n : ℕ) → mag z < lowest (suc n) → signed_bits (suc n) z < 256 ^ suc n
unfolding signed_bits
bits_below (pos v) n h = let w = lowest_twice n in omega arith
bits_below (negsuc k) n h = let w = lowest_twice n in let m = mod-lt (suc k) (lowest_positive n) in omega arith

-- Octets that hold the bits of a signed number hold that number.
integer_of_bits : (z : ℤ) (x : ℕ) (s : List ℕ) → Octets (x ∷ s) → mag z < lowest (suc (length s))
    → big_endian (x ∷ s) ≡ signed_bits (suc (length s)) z → integer (x ∷ s) ≡ z
unfolding signed_bits
integer_of_bits (pos v) x s o h e = integer_of_small x s (omega arith) ∙ ap pos e
integer_of_bits (negsuc k) x s o h e = ⊎_elim equal below (eq-or-lt_of_le h)
  where
    equal : suc k ≡ lowest (suc (length s)) → integer (x ∷ s) ≡ negsuc k
    equal f =
        let g : big_endian (x ∷ s) ≡ lowest (suc (length s)) + 0 = e ∙ rw (f, mod_self (lowest (suc (length s)))) in
        integer_of_large x s 0 o g ∙ unfold with_sign in ap (λ (n : ℕ). neg_ℤ (pos n)) (sym f)

    below : suc k < lowest (suc (length s)) → integer (x ∷ s) ≡ negsuc k
    below f = integer_of_large x s (suc k) o (e ∙ rw (mod-eq_of_lt f)) ∙ unfold with_sign in refl

integer_octets_of : (z : ℤ) (n : ℕ) → mag z < lowest (suc n) → integer (octets_of (suc n) (signed_bits (suc n) z)) ≡ z
integer_octets_of z n h =
    go (octets_of (suc n) (signed_bits (suc n) z)) (length_octets_of (suc n) (signed_bits (suc n) z))
    (octets_octets_of (suc n) (signed_bits (suc n) z)) (number_octets_of (suc n) (signed_bits (suc n) z) (bits_below z n h))
  where
    go : (s : List ℕ) → length s ≡ suc n → Octets s → big_endian s ≡ signed_bits (suc n) z → integer s ≡ z
    go [] l o e = absurd (omega arith)
    go (x ∷ s) l o e =
        let k : n ≡ length s = omega arith in
        integer_of_bits z x s o (rw k at h) (e ∙ rw k)

-- The least octets of an int hold it.
pub integer_least_int : (z : ℤ) → mag z < lowest 8 → integer (least_int z) ≡ z
unfolding least_int
integer_least_int z h = go (signed_width z) refl
  where
    go : (n : ℕ) → signed_width z ≡ n → integer (octets_of n (signed_bits n z)) ≡ z
    go zero e = unfold octets_of integer in sym (signed_width_zero z h e)
    go (suc n) e = integer_octets_of z n (signed_width_holds z n h e)

pub length_least_int : (z : ℤ) → length (least_int z) ≡ signed_width z
unfolding least_int
length_least_int z = length_octets_of (signed_width z) (signed_bits (signed_width z) z)

pub octets_least_int : (z : ℤ) → Octets (least_int z)
unfolding least_int
octets_least_int z = octets_octets_of (signed_width z) (signed_bits (signed_width z) z)

lowest_grows : (n m : ℕ) → n ≤ m → lowest (suc n) ≤ lowest (suc m)
lowest_grows n m h = let k = power_grows n m h in rw (lowest_half n, lowest_half m) (omega arith)

-- At most eight octets hold a signed number of 64 bits.
pub integer_in_range : (s : List ℕ) → Octets s → length s ≤ 8 → mag (integer s) < lowest 8
integer_in_range [] o h = unfold integer lowest in omega arith
integer_in_range (x ∷ s) o h = lt_of_lt_of_le (mag_integer x s o) (lowest_grows (length s) 7 (omega arith))

-- Octets that hold a signed number are no shorter than its least octets.
pub least_int_no_shorter : (s : List ℕ) → Octets s → length s ≤ 8 → NoShorter (least_int (integer s)) s
unfolding least_int
least_int_no_shorter [] o h = unfold least_int integer signed_width width width_within octets_of in no_shorter_self []
least_int_no_shorter (x ∷ s) o h =
    let z = integer (x ∷ s) in
    let l = length_least_int z in
    let m = signed_width_least z (length s) (mag_integer x s o) in
    record { long = omega arith; same = λ e. same (sym l ∙ e) }
  where
    same : signed_width (integer (x ∷ s)) ≡ suc (length s) → least_int (integer (x ∷ s)) ≡ x ∷ s
    same e =
        let b = bits_integer x s o in
        let n = suc (length s) in
        rw (e, b)
        (number_injective (octets_of n (big_endian (x ∷ s))) (x ∷ s) (octets_octets_of n (big_endian (x ∷ s))) o
        (length_octets_of n (big_endian (x ∷ s))) (number_octets_of n (big_endian (x ∷ s)) (number_below (x ∷ s) o)))

-- Where a field may have as many octets, its signed number is read.
pub signed_is : (s : List ℕ) → length s ≤ 8 → signed s ≡ integer s
unfolding signed
signed_is s h = rw (le-leb (length s) 8 h)

-- The octets of a least form are the least octets.
pub int_octets : (r : Least) (z : ℤ) → r ≡ int_width_bits z → octets_of r.width r.bits ≡ least_int z
unfolding int_width_bits least_int
int_octets r z e = rw e
