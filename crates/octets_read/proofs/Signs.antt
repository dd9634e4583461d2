-- Laws for reading a signed number from its sign and its magnitude.
use Prim.Native.Nat.{ℕ, zero, suc, ◌+◌, ◌*◌, ◌-◌, ◌%◌, ◌^◌, ◌≤◌, ◌<◌}
use native.Mathlib.Nat.{mod-eq_of_lt, pow-suc, zero-add}
use native.Mathlib.Omega.{arith}
use mathlib.Core.Path.{◌≡◌, refl, ap, ◌∙◌}
use mathlib.Core.Bool.{true}
use mathlib.Core.List.{List, [], ◌∷◌}
use lib.Arith.{digits_lt}
use lib.IntN.{pos, negsuc, neg_ℤ, ◌-ℤ◌}
use lib.ListN.{length, get_or}
use mir.Syntax.{w64}
use mir.Val.{SFits, to_z, of_z}
use mir.ValLaws.{to_z-of_z, to_z_pos}
use borrow.Author.Tests.{le-leb, lt-leb}
use Rattle.octets.specs.Number.{Octets, big_endian}
use Rattle.octets.specs.Signed.{lowest, with_sign, integer}
use Rattle.octets.specs.internal.Bounded.{signed}
use Rattle.octets.proofs.Number.{number_below, power_grows}
use Rattle.octets.proofs.Integer.{lowest_half}

-- A number whose leftmost bit is clear.
pub clear_bound : (s : List ℕ) → Octets s → 0 < length s → length s ≤ 8 → get_or s 0 0 < 128 → big_endian s < 2 ^ 63
unfolding big_endian Octets
clear_bound [] o a b h = absurd (omega arith)
clear_bound (x ∷ s) o a b h =
    let g = power_grows (length s) 7 (omega arith) in
    let d = digits_lt h (number_below s o.1) in
    omega arith

-- A number whose leftmost bit is set is that bit and the rest.
pub set_splits : (x : ℕ) (s : List ℕ) → x < 256 → 128 ≤ x → big_endian (x ∷ s) ≡ lowest (suc (length s)) + big_endian (x % 128 ∷ s)
unfolding big_endian
set_splits x s b h =
    let e = lowest_half (length s) in
    let y : x ≡ 128 + x % 128 = omega arith in
    let f : x * 256 ^ length s ≡ 128 * 256 ^ length s + x % 128 * 256 ^ length s = ap (λ (n : ℕ). n * 256 ^ length s) y ∙ omega arith in
    omega arith

-- Taking that bit away leaves a number from 0 on, and no larger one than the bit.
pub set_bounds : (s : List ℕ) → Octets s → 0 < length s → 128 ≤ get_or s 0 0
    → (lowest (length s) ≤ big_endian s) × (big_endian s - lowest (length s) ≤ lowest (length s))
unfolding Octets
set_bounds [] o a h = absurd (omega arith)
set_bounds (x ∷ s) o a h =
    let e = set_splits x s o.0 h in
    let l = lowest_half (length s) in
    let b = rw (pow-suc 256 (length s)) at (number_below (x ∷ s) o) in
    (omega arith, omega arith)

pub signed_long : (s : List ℕ) → 8 < length s → pos 0 ≡ signed s
unfolding signed
signed_long s h = rw (lt-leb (length s) 8 h)

pub signed_none : (s : List ℕ) → length s ≡ 0 → pos 0 ≡ signed s
unfolding signed integer
signed_none [] h = refl
signed_none (x ∷ s) h = absurd (omega arith)

pub signed_clear : (s : List ℕ) → 0 < length s → length s ≤ 8 → get_or s 0 0 < 128 → pos (big_endian s) ≡ signed s
unfolding signed integer with_sign
signed_clear [] a b h = absurd (omega arith)
signed_clear (x ∷ s) a b h = rw (le-leb (length (x ∷ s)) 8 b, lt-leb 128 x h, mod-eq_of_lt h)

-- A sign over no magnitude, and over one.
with_none : (n m : ℕ) → m ≡ 0 → neg_ℤ (pos (lowest n)) ≡ with_sign n true m
unfolding with_sign
with_none n m h = rw h

with_some : (n m : ℕ) → (m ≡ 0 → ⊥) → neg_ℤ (pos m) ≡ with_sign n true m
unfolding with_sign
with_some n zero h = absurd (h refl)
with_some n (suc m) h = refl

-- Where the leftmost bit is set, the magnitude is what is left without it.
set_rest : (x : ℕ) (s : List ℕ) → x < 256 → 128 ≤ x → big_endian (x ∷ s) - lowest (suc (length s)) ≡ big_endian (x % 128 ∷ s)
set_rest x s b h = let e = set_splits x s b h in omega arith

signed_set : (x : ℕ) (s : List ℕ) → x < 256 → 128 ≤ x → length (x ∷ s) ≤ 8
    → with_sign (length (x ∷ s)) true (big_endian (x ∷ s) - lowest (length (x ∷ s))) ≡ signed (x ∷ s)
unfolding signed integer
signed_set x s b h l = rw (le-leb (length (x ∷ s)) 8 l, le-leb 128 x h, set_rest x s b h)

pub signed_lowest : (s : List ℕ) → Octets s → 0 < length s → length s ≤ 8 → 128 ≤ get_or s 0 0 → big_endian s - lowest (length s) ≡ 0
    → neg_ℤ (pos (lowest (length s))) ≡ signed s
unfolding Octets
signed_lowest [] o a b h z = absurd (omega arith)
signed_lowest (x ∷ s) o a b h z = with_none (length (x ∷ s)) _ z ∙ signed_set x s o.0 h b

pub signed_minus : (s : List ℕ) → Octets s → 0 < length s → length s ≤ 8 → 128 ≤ get_or s 0 0 → (big_endian s - lowest (length s) ≡ 0 → ⊥)
    → neg_ℤ (pos (big_endian s - lowest (length s))) ≡ signed s
unfolding Octets
signed_minus [] o a b h z = absurd (omega arith)
signed_minus (x ∷ s) o a b h z = with_some (length (x ∷ s)) _ z ∙ signed_set x s o.0 h b

-- What the machine makes of `-1 - d` with d one less than k.
minus_step : (j : ℕ) → negsuc 0 -ℤ pos j ≡ negsuc j
minus_step zero = refl
minus_step (suc j) = ap (λ (n : ℕ). negsuc (suc n)) (zero-add j)

back : (k : ℕ) → 0 < k → k ≤ 2 ^ 63 → negsuc 0 -ℤ to_z w64 (k - 1) ≡ negsuc (k - 1)
back k a b = rw (to_z_pos w64 (k - 1) (omega arith)) (minus_step (k - 1))

pub minus_fits : (k : ℕ) → 0 < k → k ≤ 2 ^ 63 → SFits w64 (negsuc 0 -ℤ to_z w64 (k - 1))
minus_fits k a b = rw (back k a b) (record { sfits = omega arith })

pub minus_is : (k : ℕ) → 0 < k → k ≤ 2 ^ 63 → to_z w64 (of_z w64 (negsuc 0 -ℤ to_z w64 (k - 1))) ≡ neg_ℤ (pos k)
minus_is zero a b = absurd (omega arith)
minus_is (suc j) a b =
    let e : suc j - 1 ≡ j = omega arith in
    to_z-of_z w64 _ (minus_fits (suc j) a b) ∙ back (suc j) a b ∙ ap negsuc e
