-- The functions `with_sign`, `answer` and `in_decimals`: which sizes are in range, and what bits stand for.
use Prim.Native.Nat.{ℕ, zero, suc, ◌+◌, ◌/◌, ◌^◌, ◌≤◌, ◌<◌}
use native.Mathlib.Omega.{arith}
use mathlib.Core.Path.{◌≡◌, refl, sym, ◌∙◌}
use mathlib.Core.Bool.{Bool, true, false}
use lib.Arith.{lt_of_le-ne}
use lib.Bits.{bit_and, and_mask, mask_lt}
use lib.Dec.{eqb, leb}
use borrow.Author.Tests.{leb-true, leb-false, eqb-true, eqb-false, eq-eqb, ne_eqb, le-leb, lt-leb, lt-ltb, le-ltb}
use Rattle.tib_real.specs.Parts.{eight, negative, exponent, fraction, finite}
use Rattle.tib_real.specs.WholeNumber.{signed, refused, accepted}
use Rattle.tib_real.proofs.Masks.{eight_exponent}
use Rattle.tib_decimals.specs.InDecimals.{rounded, in_range, answer, in_decimals}
use Rattle.tib_decimals.specs.internal.Sizes.{capped, size_of}
use Rattle.tib_decimals.proofs.Capped.{out_of_range, capped_answer}
use Rattle.tib_decimals.proofs.Exponents.{far_up, far_down}
use Rattle.tib_decimals.proofs.Powers.{normal, factors, normal_size, subnormal_size}

-- ---- a sign, 1 or 0, and a size

pub too_large : (sign n : ℕ) → sign ≤ 1 → 2 ^ 63 + sign ≤ n → refused ≡ answer (eqb sign 1) n
unfolding answer in_range
too_large zero n s h = rw (le-ltb n (2 ^ 63) (omega arith))
too_large (suc zero) n s h = rw (lt-leb n (2 ^ 63) (omega arith))
too_large (suc (suc sign)) n s h = absurd (omega arith)

pub in_range_lem : (sign n : ℕ) → sign ≤ 1 → n < 2 ^ 63 + sign → accepted (signed (eqb sign 1) n) ≡ answer (eqb sign 1) n
unfolding answer in_range
in_range_lem zero n s h = rw (lt-ltb n (2 ^ 63) (omega arith))
in_range_lem (suc zero) n s h = rw (le-leb n (2 ^ 63) (omega arith))
in_range_lem (suc (suc sign)) n s h = absurd (omega arith)

sign_is : (b : ℕ) → b < 2 ^ 64 → eqb (b / 2 ^ 63) 1 ≡ negative eight b
unfolding negative
sign_is b h = go (leb (2 ^ 63) b) refl
  where
    go : (t : Bool) → leb (2 ^ 63) b ≡ t → eqb (b / 2 ^ 63) 1 ≡ t
    go true e = let k = leb-true (2 ^ 63) b e in eq-eqb (b / 2 ^ 63) 1 (omega arith)
    go false e = let k = leb-false (2 ^ 63) b e in ne_eqb (b / 2 ^ 63) 1 (λ x. omega arith)

-- ---- the parts of bits, as the machine takes them

pub exponent_below : (b : ℕ) → exponent eight b < 2048
exponent_below b = rw (← eight_exponent b) (mask_lt (b / 2 ^ 52) 11)

pub fraction_is : (b : ℕ) → bit_and b 0xfffffffffffff ≡ fraction eight b
unfolding fraction
fraction_is b = and_mask b 52

-- ---- all bits

module _ (b k : ℕ) (h : 1 ≤ k) (l : k ≤ 9) where
  abbrev size : ℕ
  size = size_of (normal b k) (5 ^ k) (exponent eight b + k)

  -- An infinity or a not-a-number.
  no_number : (minus : Bool) → exponent eight b ≡ 2047 → answer minus size ≡ in_decimals b k
  unfolding answer in_decimals finite
  no_number minus e =
      let f = far_up (normal b k) (5 ^ k) (exponent eight b + k) (factors b k h l) (omega arith) in
      rw (out_of_range minus size f, e)

  number : (exponent eight b ≡ 2047 → ⊥) → size ≡ rounded b k → answer (negative eight b) size ≡ in_decimals b k
  unfolding in_decimals finite
  number n e =
      let x = exponent_below b in
      rw (lt-ltb (exponent eight b) 2047 (lt_of_le-ne (omega arith) n), e)

  all_bits : answer (negative eight b) size ≡ in_decimals b k
  all_bits = go (eqb (exponent eight b) 2047) refl (eqb (exponent eight b) 0) refl
    where
      go : (p : Bool) → eqb (exponent eight b) 2047 ≡ p → (q : Bool) → eqb (exponent eight b) 0 ≡ q → answer (negative eight b) size ≡ in_decimals b k
      go true e q f = no_number (negative eight b) (eqb-true (exponent eight b) 2047 e)
      go false e true f =
          let z = eqb-true (exponent eight b) 0 f in
          let s = far_down (normal b k) (5 ^ k) (exponent eight b + k) (factors b k h l) (omega arith) in
          number (eqb-false (exponent eight b) 2047 e) (s ∙ sym (subnormal_size b k l z))
      go false e false f = number (eqb-false (exponent eight b) 2047 e) (normal_size b k (eqb-false (exponent eight b) 0 f))

  pub bits_answer : b < 2 ^ 64 → answer (eqb (b / 2 ^ 63) 1) (capped size) ≡ in_decimals b k
  bits_answer x = rw (sign_is b x, capped_answer (negative eight b) size) all_bits
