-- There is exactly one nearest whole number, and `nearest` is it.
use Prim.Native.Nat.{ℕ, zero, suc, ◌+◌, ◌*◌, ◌/◌, ◌%◌, ◌≤◌, ◌<◌}
use native.Mathlib.Nat.{one-mul, mul_assoc, add-mul, mul-pos, mul-le-mul_right, mul-lt-mul_of_pos_right, lt_of_mul-lt-mul_right, le_of_mul-le-mul_right, eq_of_mul-eq-mul_right, mod-lt, div-add-mod'}
use native.Mathlib.Omega.{arith}
use mathlib.Core.Path.{◌≡◌, refl, sym, ap, ◌∙◌}
use mathlib.Core.Bool.{Bool, true, false}
use lib.Arith.{digits_div, digits_mod}
use lib.Dec.{ltb}
use borrow.Author.Tests.{ltb-true, ltb-false, lt-ltb, le-ltb}
use Rattle.tib_decimals.specs.Nearest.{Nearest, nearest}

-- ---- the number of the definition

-- By how twice the rest compares with the denominator.
pub below_half : (q r d : ℕ) → 2 * r < d → nearest (q * d + r) d ≡ q
unfolding nearest
below_half q r d h = rw (digits_div q {m = d} {r = r} (omega arith), digits_mod q {m = d} {r = r} (omega arith), lt-ltb (2 * r) d h)

pub above_half : (q r d : ℕ) → r < d → d < 2 * r → nearest (q * d + r) d ≡ q + 1
unfolding nearest
above_half q r d l h = rw (digits_div q {m = d} {r = r} l, digits_mod q {m = d} {r = r} l, le-ltb (2 * r) d (omega arith), lt-ltb d (2 * r) h)

pub just_half : (q r d : ℕ) → 0 < d → 2 * r ≡ d → nearest (q * d + r) d ≡ q + q % 2
unfolding nearest
just_half q r d l h = rw (digits_div q {m = d} {r = r} (omega arith), digits_mod q {m = d} {r = r} (omega arith), le-ltb (2 * r) d (omega arith), le-ltb d (2 * r) (omega arith))

-- A fraction by its whole part, its rest, and on which side of a half the rest is.
pub data Split (n d : ℕ) : Type 0 where
  below : (q r : ℕ) → n ≡ q * d + r → 2 * r < d → Split n d
  just : (q r : ℕ) → n ≡ q * d + r → 2 * r ≡ d → Split n d
  above : (q r : ℕ) → n ≡ q * d + r → r < d → d < 2 * r → Split n d

pub split : (n d : ℕ) → 0 < d → Split n d
split n d p = go (ltb (2 * (n % d)) d) refl (ltb d (2 * (n % d))) refl
  where
    whole : n ≡ n / d * d + n % d
    whole = sym (div-add-mod' n d)

    go : (a : Bool) → ltb (2 * (n % d)) d ≡ a → (b : Bool) → ltb d (2 * (n % d)) ≡ b → Split n d
    go true e b f = below (n / d) (n % d) whole (ltb-true (2 * (n % d)) d e)
    go false e true f = above (n / d) (n % d) whole (mod-lt n p) (ltb-true d (2 * (n % d)) f)
    go false e false f =
        let x = ltb-false (2 * (n % d)) d e in
        let y = ltb-false d (2 * (n % d)) f in
        just (n / d) (n % d) whole (omega arith)

-- ---- it is nearest, and no other is

pub next : (q d : ℕ) → (q + 1) * d ≡ q * d + d
next q d = add-mul q 1 d ∙ ap (λ (x : ℕ). q * d + x) (one-mul d)

-- In a tie, the even one of q and q + 1.
tie : (q r d t : ℕ) → 0 < d → 2 * r ≡ d → q % 2 ≡ t → t < 2 → Nearest (q * d + r) d (q + t)
tie q r d zero p h e l = record { not_above = omega arith; not_below = omega arith; tie_above = λ x. omega arith; tie_below = λ x. omega arith }
tie q r d (suc zero) p h e l =
    let k = next q d in
    record { not_above = omega arith; not_below = omega arith; tie_above = λ x. omega arith; tie_below = λ x. omega arith }
tie q r d (suc (suc t)) p h e l = absurd (omega arith)

pub nearest_is : (n d : ℕ) → 0 < d → Nearest n d (nearest n d)
nearest_is n d p = go (split n d p)
  where
    go : Split n d → Nearest n d (nearest n d)
    go (below q r e h) =
        rw (e, below_half q r d h)
        (record { not_above = omega arith; not_below = omega arith; tie_above = λ x. absurd (omega arith); tie_below = λ x. absurd (omega arith) })
    go (just q r e h) = rw (e, just_half q r d p h) (tie q r d (q % 2) p h refl (omega arith))
    go (above q r e l h) =
        let k = next q d in
        rw (e, above_half q r d l h)
        (record { not_above = omega arith; not_below = omega arith; tie_above = λ x. absurd (omega arith); tie_below = λ x. absurd (omega arith) })

-- Of two the larger would be the next one, both by a tie, and both even.
no_second : {n d z w : ℕ} → 0 < d → Nearest n d z → Nearest n d w → z < w → ⊥
no_second {n} {d} {z} {w} p x y l =
    let k : (z + 1) * d ≤ w * d = mul-le-mul_right d (omega arith) in
    let m = next z d in
    let e : w ≡ z + 1 = eq_of_mul-eq-mul_right d p w (z + 1) (omega arith) in
    let f = x.tie_below (omega arith) in
    let g = y.tie_above (omega arith) in
    omega arith

pub nearest_once : {n d z w : ℕ} → 0 < d → Nearest n d z → Nearest n d w → z ≡ w
nearest_once {n} {d} {z} {w} p x y = go (ltb z w) refl (ltb w z) refl
  where
    go : (a : Bool) → ltb z w ≡ a → (b : Bool) → ltb w z ≡ b → z ≡ w
    go true e b f = absurd (no_second p x y (ltb-true z w e))
    go false e true f = absurd (no_second p y x (ltb-true w z f))
    go false e false f =
        let k = ltb-false z w e in
        let m = ltb-false w z f in
        omega arith

-- ---- of other fractions

-- The same fraction with a factor above and below.
pub nearest_scaled : (n d c : ℕ) → 0 < d → 0 < c → nearest (n * c) (d * c) ≡ nearest n d
nearest_scaled n d c p l = go (split n d p)
  where
    parts : (q r : ℕ) → n ≡ q * d + r → n * c ≡ q * (d * c) + r * c
    parts q r e = rw e (add-mul (q * d) r c ∙ ap (λ (x : ℕ). x + r * c) (mul_assoc q d c))

    go : Split n d → nearest (n * c) (d * c) ≡ nearest n d
    go (below q r e h) =
        rw (parts q r e, below_half q (r * c) (d * c) (rw (← mul_assoc 2 r c) (mul-lt-mul_of_pos_right h l)), e, below_half q r d h)
    go (just q r e h) =
        rw (parts q r e, just_half q (r * c) (d * c) (mul-pos p l) (sym (mul_assoc 2 r c) ∙ ap (λ (x : ℕ). x * c) h), e, just_half q r d p h)
    go (above q r e k h) =
        rw (parts q r e, above_half q (r * c) (d * c) (mul-lt-mul_of_pos_right k l) (rw (← mul_assoc 2 r c) (mul-lt-mul_of_pos_right h l)), e, above_half q r d k h)

pub nearest_zero : (n d : ℕ) → 2 * n < d → nearest n d ≡ 0
nearest_zero n d h = ap (λ (x : ℕ). nearest x d) (omega arith) ∙ below_half 0 n d h

pub nearest_at_least : (k n d : ℕ) → 0 < d → k * d ≤ n → k ≤ nearest n d
nearest_at_least k n d p h = go (split n d p)
  where
    least : (q r : ℕ) → n ≡ q * d + r → r < d → k ≤ q
    least q r e l =
        let m = next q d in
        let s : k * d < (q + 1) * d = omega arith in
        let t = lt_of_mul-lt-mul_right d s in
        omega arith

    go : Split n d → k ≤ nearest n d
    go (below q r e s) = let l = least q r e (omega arith) in rw (e, below_half q r d s) l
    go (just q r e s) = let l = least q r e (omega arith) in rw (e, just_half q r d p s) (omega arith)
    go (above q r e t s) = let l = least q r e t in rw (e, above_half q r d t s) (omega arith)

pub nearest_at_most : (k n d : ℕ) → 0 < d → n ≤ k * d → nearest n d ≤ k
nearest_at_most k n d p h = go (split n d p)
  where
    most : (q r : ℕ) → n ≡ q * d + r → q ≤ k
    most q r e = let s : q * d ≤ k * d = omega arith in le_of_mul-le-mul_right s p

    less : (q r : ℕ) → n ≡ q * d + r → 0 < r → q < k
    less q r e l = let s : q * d < k * d = omega arith in lt_of_mul-lt-mul_right d s

    go : Split n d → nearest n d ≤ k
    go (below q r e s) = let l = most q r e in rw (e, below_half q r d s) l
    go (just q r e s) = let l = less q r e (omega arith) in rw (e, just_half q r d p s) (omega arith)
    go (above q r e t s) = let l = less q r e (omega arith) in rw (e, above_half q r d t s) (omega arith)
