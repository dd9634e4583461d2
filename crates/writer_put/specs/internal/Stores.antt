-- What the private functions `store_number` and `store_plain` do: they store octets that end at an offset.
use Rattle.std.specs.Prelude.{ℕ, ◌-◌, ◌≡◌, List, length}
use Rattle.octets_store.specs.Store.{stored}

-- Octets stored so that they end at an offset: the offset at which they start, and the buffer after the store.
pub record Before (d : List ℕ) (end : ℕ) (octets : List ℕ) (at : ℕ) (after : List ℕ) : Type 0 where
  pub place : at ≡ end - length octets
  pub buffer : after ≡ stored d (end - length octets) octets
