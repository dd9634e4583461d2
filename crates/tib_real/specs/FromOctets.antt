-- The real that octets hold.
use Rattle.std.specs.Prelude.{ℕ, Bool, false, cond, List, length, ◌==◌, from_bits}
use Rattle.std.specs.Float.{binary64}
use Rattle.octets.specs.Number.{big_endian}
use Rattle.tib_real.specs.declared.types.Real.{Real}
use Rattle.tib_real.specs.Widened.{widened}

-- The real with these 64 bits; its value is the one that they encode.
unfoldable pub with_bits : ℕ → ℕ → Bool → Real
with_bits b h present = record { value = from_bits binary64 b; bits = b; hint = h; hinted = present }

-- The real that octets hold, with its hint. Octets of another length than eight and four give a real of zeros.
unfoldable pub real_of : List ℕ → ℕ → Bool → Real
real_of s h present =
    cond (length s == 8) (with_bits (big_endian s) h present)
    (cond (length s == 4) (with_bits (widened (big_endian s)) h present)
    (with_bits 0 0 false))
