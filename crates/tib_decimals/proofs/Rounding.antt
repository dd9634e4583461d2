-- Rounding by a sum and a quotient.
use Prim.Native.Nat.{ℕ, zero, suc, ◌+◌, ◌*◌, ◌-◌, ◌/◌, ◌%◌, ◌<◌}
use native.Mathlib.Omega.{arith}
use mathlib.Core.Path.{◌≡◌, refl}
use lib.Arith.{digits_div}
use Rattle.tib_decimals.specs.Nearest.{nearest}
use Rattle.tib_decimals.proofs.Nearest.{next, Split, below, just, above, split, below_half, just_half, above_half}

by_quotient : (n q r d : ℕ) → r < d → n ≡ q * d + r → n / d ≡ q
by_quotient n q r d h e = rw e (digits_div q h)

-- One less than a half is added, and the last bit of the whole part. So the sum reaches the next whole number exactly where the rest is above a
-- half, or is a half and the whole part odd.
module _ (h : ℕ) (p : 0 < h) where
  at_tie : (q t : ℕ) → q % 2 ≡ t → t < 2 → (q * (2 * h) + h + (h - 1) + t) / (2 * h) ≡ q + t
  at_tie q zero e l = by_quotient (q * (2 * h) + h + (h - 1) + 0) (q + 0) (h + (h - 1)) (2 * h) (omega arith) (omega arith)
  at_tie q (suc zero) e l =
      let k = next q (2 * h) in
      by_quotient (q * (2 * h) + h + (h - 1) + 1) (q + 1) 0 (2 * h) (omega arith) (omega arith)
  at_tie q (suc (suc t)) e l = absurd (omega arith)

  pub rounding_sum : (v : ℕ) → (v + (h - 1) + v / (2 * h) % 2) / (2 * h) ≡ nearest v (2 * h)
  rounding_sum v = go (split v (2 * h) (omega arith))
    where
      go : Split v (2 * h) → (v + (h - 1) + v / (2 * h) % 2) / (2 * h) ≡ nearest v (2 * h)
      go (below q r e k) =
          rw (e, digits_div q {m = 2 * h} {r = r} (omega arith), below_half q r (2 * h) k)
          (by_quotient (q * (2 * h) + r + (h - 1) + q % 2) q (r + (h - 1) + q % 2) (2 * h) (omega arith) (omega arith))
      go (just q r e k) =
          let f : r ≡ h = omega arith in
          rw (e, digits_div q {m = 2 * h} {r = r} (omega arith), just_half q r (2 * h) (omega arith) k, f) (at_tie q (q % 2) refl (omega arith))
      go (above q r e l k) =
          let m = next q (2 * h) in
          rw (e, digits_div q {m = 2 * h} {r = r} l, above_half q r (2 * h) l k)
          (by_quotient (q * (2 * h) + r + (h - 1) + q % 2) (q + 1) (r + (h - 1) + q % 2 - 2 * h) (2 * h) (omega arith) (omega arith))
