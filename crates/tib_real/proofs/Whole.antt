-- A real below 2 ^ 53 in size, and the whole number that truncating it gives.
use Rattle.std.proofs.Common.{◌≡◌, ℕ, zero, suc, ◌+◌, ◌-◌, ◌*◌, ◌/◌, ◌%◌, ◌^◌, ◌<◌, min, Bool, true, false, ◌||◌, T, eqb, ◌⊎◌, pos, sym, refl, ap, ◌∙◌, inl, inr, mul_assoc, add_comm, lt_of_mul-lt-mul_right, mul-lt-mul_of_pos_right, mul-pos, div-add-mod', zero-mul, mul-one, mul_right_comm, arith, le→leb, lt→ltb, pow_pos, eq-eqb, ne_eqb, eqb-true}
use native.Mathlib.Nat.{eq_of_mul-eq-mul_right}
use mathlib.Core.Bool.{beq}
use lib.Ieee.{Float, fin, binary64, up, down, level, lt, le, eq, to_signed, of_int, in_float, nan, inf}
use lib.Ieee.Back.{round_whole}
use lib.Ieee.Exact.{HasValue}
use lib.Ieee.Fits.{down_pos}
use lib.Ieee.Nearest.{div_same}
use borrow.Author.Tests.{eqb-false}
use Rattle.tib_real.specs.WholeNumber.{signed}
use Rattle.tib_real.proofs.Flags.{and_also, or-true, or_left}

-- ---- it can be truncated

size_bound : (p d a : ℕ) → 0 < d → p * 2 ^ 1074 ≡ a * d → a < 2 ^ 53 * 2 ^ 1074 → p < 2 ^ 63 * d
size_bound p d a z v h =
    let k = mul-lt-mul_of_pos_right h z in
    let l : p * 2 ^ 1074 < 2 ^ 53 * d * 2 ^ 1074 = rw (v, mul_right_comm (2 ^ 53) d (2 ^ 1074)) k in
    let m = lt_of_mul-lt-mul_right (2 ^ 1074) l in
    omega arith

some_size : (p d : ℕ) → 0 < d → 0 < p + 2 ^ 63 * d
some_size p d z = omega arith

pub in_range_lem : (x : Float) (s : Bool) (a : ℕ) → HasValue x s a (2 ^ 1074) → a < 2 ^ 53 * 2 ^ 1074
    → T (le (fin true 1 (pos 63)) x) × T (lt x (fin false 1 (pos 63)))
unfolding le lt
in_range_lem (fin true m e) s a v h =
    let k = size_bound (m * up e) (down e) a (down_pos e) v.1 h in (
      or_left (lt (fin true 1 (pos 63)) (fin true m e)) (eq (fin true 1 (pos 63)) (fin true m e)) (lt→ltb (m * up e * 1) (2 ^ 63 * down e) (rw (mul-one (m * up e)) k)),
      lt→ltb 0 (m * up e * 1 + 2 ^ 63 * down e) (some_size (m * up e * 1) (down e) (down_pos e)),
    )
in_range_lem (fin false m e) s a v h =
    let k = size_bound (m * up e) (down e) a (down_pos e) v.1 h in (
      or_left (lt (fin true 1 (pos 63)) (fin false m e)) (eq (fin true 1 (pos 63)) (fin false m e))
          (lt→ltb 0 (2 ^ 63 * down e + m * up e * 1) (rw (add_comm (2 ^ 63 * down e) (m * up e * 1)) (some_size (m * up e * 1) (down e) (down_pos e)))),
      lt→ltb (m * up e * 1) (2 ^ 63 * down e) (rw (mul-one (m * up e)) k),
    )
in_range_lem nan s a v h = elim v [ ]
in_range_lem (inf _) s a v h = elim v [ ]

-- ---- what truncating gives

uncapped : (n : ℕ) → n < 2 ^ 53 → (min n (2 ^ 63) ≡ n) × (min n (2 ^ 63 - 1) ≡ n)
uncapped n h = (omega arith, omega arith)

pub truncated : (x : Float) (s : Bool) (a : ℕ) → HasValue x s a (2 ^ 1074) → a / 2 ^ 1074 < 2 ^ 53 → to_signed 63 x ≡ signed s (a / 2 ^ 1074)
unfolding to_signed signed
truncated (fin t m e) s a v h =
    let q = div_same (m * up e) (down e) a (2 ^ 1074) (down_pos e) (pow_pos 1074) v.1 in
    let k = uncapped (a / 2 ^ 1074) h in
    rw (v.0, q, k.0, k.1)
truncated nan s a v h = elim v [ ]
truncated (inf _) s a v h = elim v [ ]

-- ---- it becomes a real again

pub whole_fits : (s : Bool) (n : ℕ) → n < 2 ^ 53 → T (in_float binary64 (signed s n))
unfolding signed in_float
whole_fits true zero h = tt
whole_fits true (suc n) h = lt→ltb n (2 ^ 53) (omega arith)
whole_fits false n h = le→leb n (2 ^ 53) (omega arith)

-- Its sign, where it is not zero.
record Again (x : Float) (s : Bool) (n : ℕ) : Type 0 where
  sign : Bool
  same : (sign ≡ s) ⊎ (n ≡ 0)
  value : HasValue x sign n 1

again : (s : Bool) (n : ℕ) → n < 2 ^ 53 → Again (of_int binary64 (signed s n)) s n
unfolding signed of_int
again true zero h = record { sign = false; same = inr refl; value = round_whole binary64 false zero (omega arith) }
again true (suc n) h = record { sign = true; same = inl refl; value = round_whole binary64 true (suc n) (omega arith) }
again false n h = record { sign = false; same = inl refl; value = round_whole binary64 false n (omega arith) }

-- ---- and is compared

same_products : (p q n m c d : ℕ) → 0 < c → 0 < d → p * c ≡ n * d → q * c ≡ m * d → eqb p q ≡ eqb n m
same_products p q n m c d z w u v = go (eqb n m) refl
  where
    go : (t : Bool) → eqb n m ≡ t → eqb p q ≡ t
    go true e = eq-eqb p q (eq_of_mul-eq-mul_right c z p q (u ∙ ap (λ (k : ℕ). k * d) (eqb-true n m e) ∙ sym v))
    go false e = ne_eqb p q (λ k. eqb-false n m e (eq_of_mul-eq-mul_right d w n m (sym u ∙ ap (λ (i : ℕ). i * c) k ∙ v)))

beq_same : (s : Bool) (b : Bool) → (beq s s || b) ≡ true
beq_same true b = refl
beq_same false b = refl

either_zero : (t s : Bool) (p q n : ℕ) → (t ≡ s) ⊎ (n ≡ 0) → (n ≡ 0 → p ≡ 0) → level t p s q ≡ eqb p q
either_zero t s p q n (inl e) z = and_also (eqb p q) (beq t s || eqb p 0) (rw e (beq_same s (eqb p 0)))
either_zero t s p q n (inr e) z = and_also (eqb p q) (beq t s || eqb p 0) (rw (eq-eqb p 0 (z e)) (or-true (beq t s)))

eq_values : (x y : Float) (t s : Bool) (n a : ℕ) → HasValue x t n 1 → HasValue y s a (2 ^ 1074) → (t ≡ s) ⊎ (n ≡ 0) → eq x y ≡ eqb (n * 2 ^ 1074) a
unfolding eq
eq_values (fin t m e) (fin u k g) s r n a v w h =
    let p = m * up e * down g in
    let q = k * up g * down e in
    let c = 2 ^ 1074 in
    let x : m * up e ≡ n * down e = sym (mul-one (m * up e)) ∙ v.1 in
    let i : p * c ≡ n * c * (down e * down g) =
    ap (λ (o : ℕ). o * down g * c) x ∙ ap (λ (o : ℕ). o * c) (mul_assoc n (down e) (down g)) ∙ mul_right_comm n (down e * down g) c in
    let j : q * c ≡ a * (down e * down g) =
    mul_right_comm (k * up g) (down e) c ∙ ap (λ (o : ℕ). o * down e) w.1 ∙ mul_right_comm a (down g) (down e) ∙ mul_assoc a (down e) (down g) in
    rw (v.0, w.0)
    (either_zero s r p q n h (λ z. ap (λ (o : ℕ). o * down g) (x ∙ ap (λ (o : ℕ). o * down e) z ∙ zero-mul (down e)) ∙ zero-mul (down g))
    ∙ same_products p q (n * c) a c (down e * down g) (pow_pos 1074) (mul-pos (down_pos e) (down_pos g)) i j)
eq_values nan y s r n a v w h = elim v [ ]
eq_values (inf _) y s r n a v w h = elim v [ ]
eq_values (fin t m e) nan s r n a v w h = elim w [ ]
eq_values (fin t m e) (inf _) s r n a v w h = elim w [ ]

quotient_whole : (a : ℕ) → eqb (a / 2 ^ 1074 * 2 ^ 1074) a ≡ eqb (a % 2 ^ 1074) 0
quotient_whole a = go (a / 2 ^ 1074 * 2 ^ 1074) (a % 2 ^ 1074) (div-add-mod' a (2 ^ 1074))
  where
    go : (p r : ℕ) → p + r ≡ a → eqb p a ≡ eqb r 0
    go p r e = split (eqb r 0) refl
      where
        split : (t : Bool) → eqb r 0 ≡ t → eqb p a ≡ t
        split true f = let z = eqb-true r 0 f in eq-eqb p a (omega arith)
        split false f = ne_eqb p a (λ k. eqb-false r 0 f (omega arith))

pub compared : (x : Float) (s : Bool) (a : ℕ) → HasValue x s a (2 ^ 1074) → a / 2 ^ 1074 < 2 ^ 53
    → eq (of_int binary64 (signed s (a / 2 ^ 1074))) x ≡ eqb (a % 2 ^ 1074) 0
compared x s a v h =
    let k = again s (a / 2 ^ 1074) h in
    eq_values (of_int binary64 (signed s (a / 2 ^ 1074))) x k.sign s (a / 2 ^ 1074) a k.value v k.same ∙ quotient_whole a
