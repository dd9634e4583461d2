-- Octets that stand at a place.
use Rattle.std.specs.Prelude.{ℕ, ◌+◌, ◌≤◌, ◌≡◌, List, length, take, drop}

-- The n octets of s from a place on are these. None of them is beyond the end of s.
pub record Stands (s part : List ℕ) (place n : ℕ) : Type 0 where
  pub inside : place + n ≤ length s
  pub same : take n (drop place s) ≡ part
