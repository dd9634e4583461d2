-- What it is to be no longer than other octets, and the only ones of that length.
use Rattle.std.specs.Prelude.{ℕ, ◌≤◌, ◌≡◌, List, length}

-- s is at least as long as l, and is l where it is just as long.
pub record NoShorter (l s : List ℕ) : Type 0 where
  pub long : length l ≤ length s
  pub same : length l ≡ length s → l ≡ s
