-- Masks with a bit for each entry of a table: they note which single fields a message has.
use Rattle.std.specs.Prelude.{ℕ, suc, ◌/◌, ◌%◌, ◌^◌, Bool, cond, ◌&&◌, List, [], ◌∷◌, eqb}
use Rattle.std.specs.Int.Bits.{bit_or}
use Rattle.table.specs.Entry.{Entry}

-- The order, counted from 0, of the first entry for a message number and a tag. Where there is none it is the count of entries.
unfoldable pub order : List Entry → ℕ → ℕ → ℕ
order [] number tag = 0
order (e ∷ es) number tag = cond (eqb e.number number && eqb e.tag tag) 0 (suc (order es number tag))

-- Whether a mask has bit k, and the mask with bit k set.
unfoldable pub has_bit : ℕ → ℕ → Bool
has_bit mask k = eqb (mask / 2 ^ k % 2) 1

unfoldable pub with_bit : ℕ → ℕ → ℕ
with_bit mask k = bit_or mask (2 ^ k)
