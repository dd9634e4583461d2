-- The whole number nearest to a fraction; of two that are equally near, the even one.
use Rattle.std.specs.Prelude.{ℕ, ◌+◌, ◌*◌, ◌/◌, ◌%◌, ◌≤◌, ◌≡◌, cond, ltb}

-- z is the whole number nearest to n / d: neither is more than a half above the other, and by a half only where z is even. Multiplied by 2 d,
-- so that no fraction is left.
pub record Nearest (n d z : ℕ) : Type 0 where
  pub not_below : 2 * n ≤ 2 * (z * d) + d
  pub not_above : 2 * (z * d) ≤ 2 * n + d
  pub tie_below : 2 * n ≡ 2 * (z * d) + d → z % 2 ≡ 0
  pub tie_above : 2 * (z * d) ≡ 2 * n + d → z % 2 ≡ 0

-- That number: the whole part or the next one, as the rest is less or more than a half; in a tie the even one of the two.
unfoldable pub nearest : ℕ → ℕ → ℕ
nearest n d =
    let q = n / d in
    let r = n % d in
    cond (ltb (2 * r) d) q (cond (ltb d (2 * r)) (q + 1) (q + q % 2))
