-- For the private functions that pass octets at the front.
use Rattle.std.specs.Prelude.{◌≡◌, ℕ, zero, suc, ◌+◌, ◌-◌, ◌≤◌, List, [], length, drop, bit_or, slice_index}
use Rattle.octets.specs.Text.{text_after, text}

-- Octets are text exactly if those from i on are.
pub record Passed (s : List ℕ) (i : ℕ) : Type 0 where
  pub inside : i ≤ length s
  pub same : text s ≡ text_after [] (drop i s)

-- What is left at the end of octets: they are text exactly if it is.
pub record Left (s rest : List ℕ) : Type 0 where
  pub inside : length rest ≤ length s
  pub is : rest ≡ drop (length s - length rest) s
  pub same : text s ≡ text rest

-- The bitwise or of the n octets from i on.
unfoldable pub any_of : List ℕ → ℕ → ℕ → ℕ
any_of s i zero = 0
any_of s i (suc n) = bit_or (any_of s i n) (slice_index s (i + n))
