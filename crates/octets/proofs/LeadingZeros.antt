-- The least length of a number by its leading zero bits.
use Prim.Native.Nat.{ℕ, suc, ◌+◌, ◌*◌, ◌-◌, ◌/◌, ◌^◌, ◌≤◌, ◌<◌}
use native.Mathlib.Nat.{pow-suc, lt_of_lt_of_le}
use native.Mathlib.Omega.{arith}
use mathlib.Core.Path.{◌≡◌, refl}
use mathlib.Core.Bool.{Bool, true, false}
use mathlib.Core.List.{List, [], ◌∷◌}
use lib.ListN.{length}
use lib.IntN.{ℤ, pos, negsuc}
use lib.Signed.{mag}
use lib.Dec.{leb}
use lib.Count.{count_leading_zeros, leading_length}
use lib.Pow.{pow_mono}
use borrow.Author.Tests.{leb-true, leb-false}
use Rattle.octets.specs.Number.{Octets, big_endian, octets_of, width, width_within, least_uint}
use Rattle.octets.specs.Signed.{lowest, integer, signed_width, signed_bits, least_int}
use Rattle.octets.specs.LeastLength.{LeastLength, zigzag, octets_by_zeros, samples, Hold}
use Rattle.octets.proofs.Number.{two_to_eights, number_below, width_holds, width_least, number_least_uint, length_least_uint, octets_least_uint}
use Rattle.octets.proofs.Integer.{mag_integer, signed_width_least, integer_least_int, length_least_int, octets_least_int}

-- A number of m bits that is below 2 ^ n has at most n bits.
bits_least : (v m n : ℕ) → 2 ^ m ≤ 2 * v + 1 → v < 2 ^ n → m ≤ n
bits_least v m n l h = go (leb m n) refl
  where
    go : (t : Bool) → leb m n ≡ t → m ≤ n
    go true e = leb-true m n e
    go false e =
        let p : 2 ^ suc n ≤ 2 ^ m = pow_mono (leb-false m n e) in
        let q : 2 ^ suc n ≡ 2 ^ n * 2 = pow-suc 2 n in
        absurd (omega arith)

-- The leading zeros say how many octets a number needs.
pub leading_width : (v : ℕ) → v < 2 ^ 64 → octets_by_zeros v ≡ width v
unfolding octets_by_zeros
leading_width v fits =
    let d = leading_length 64 v fits in
    let m = d.0 in
    let sum = d.1 in
    let n = (71 - count_leading_zeros 64 v) / 8 in
    let covers : m ≤ 8 * n = omega arith in
    let few = bits_least v m (8 * width v) d.3 (rw (two_to_eights (width v)) (width_holds v fits)) in
    let enough = width_least v n (rw (← two_to_eights n) (lt_of_lt_of_le d.2 (pow_mono covers))) in
    omega arith

-- The least length of every uint of 64 bits.
pub uint_length : (v : ℕ) → v < 2 ^ 64 → LeastLength big_endian v (octets_by_zeros v)
uint_length v fits =
    rw (leading_width v fits)
    (record {
      held = (least_uint v, octets_least_uint v, length_least_uint v, number_least_uint v fits);
      least = λ s o e. width_least v (length s) (rw e at (number_below s o));
    })

pub signed_zigzag : (z : ℤ) → signed_width z ≡ width (zigzag z)
unfolding signed_width zigzag
signed_zigzag (pos v) = refl
signed_zigzag (negsuc k) = refl

-- A signed number of 64 bits stays below 2 ^ 64.
pub zigzag_fits : (z : ℤ) → mag z < 2 ^ 63 → zigzag z < 2 ^ 64
unfolding zigzag
zigzag_fits (pos v) h = omega arith
zigzag_fits (negsuc k) h = omega arith

signed_at_least : (s : List ℕ) → Octets s → signed_width (integer s) ≤ length s
signed_at_least [] o = unfold integer signed_width width width_within in omega arith
signed_at_least (x ∷ s) o = signed_width_least (integer (x ∷ s)) (length s) (mag_integer x s o)

-- The least length of every int of 64 bits, with a bit for its sign.
pub int_length : (z : ℤ) → mag z < 2 ^ 63 → LeastLength integer z (octets_by_zeros (zigzag z))
int_length z fits =
    rw (leading_width (zigzag z) (zigzag_fits z fits), ← signed_zigzag z)
    (record {
      held = (least_int z, octets_least_int z, length_least_int z, integer_least_int z (unfold lowest in fits));
      least = λ s o e. rw e at (signed_at_least s o);
    })

pub samples_hold : Hold samples
unfolding Hold samples least_int signed_width signed_bits width width_within octets_of lowest octets_by_zeros count_leading_zeros zigzag
samples_hold = ((refl, refl), ((refl, refl), ((refl, refl), ((refl, refl), ((refl, refl), tt)))))
