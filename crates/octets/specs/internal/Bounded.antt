-- The values that the functions `uint` and `int` return for octets of any length: 0 for more than eight octets.
use Rattle.std.specs.Prelude.{ℕ, cond, List, length, leb, ℤ, pos}
use Rattle.octets.specs.Number.{big_endian}
use Rattle.octets.specs.Signed.{integer}

-- The number that at most eight octets hold, 0 for more: no number of any format takes more.
unfoldable pub unsigned : List ℕ → ℕ
unsigned s = cond (leb (length s) 8) (big_endian s) 0

-- The signed number that at most eight octets hold, 0 for more: no field of kind int has more.
unfoldable pub signed : List ℕ → ℤ
signed s = cond (leb (length s) 8) (integer s) (pos 0)
