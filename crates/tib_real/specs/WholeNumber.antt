-- Reals read as whole numbers, in fractions or in decimals: which hints they need, and the answers.
use Rattle.std.specs.Prelude.{ℕ, Bool, cond, ◌&&◌, ℤ, pos, neg_ℤ, nat_le}
use Rattle.reading.specs.Refusals as refusals
use Rattle.tib_real.specs.declared.types.Real.{Real}
use Rattle.tib_real.specs.declared.types.WholeNumber.{WholeNumber}

-- Whether a real has a hint, and one from `least` to `most`.
unfoldable pub hint_within : ℕ → ℕ → Real → Bool
hint_within least most r = r.hinted && nat_le least r.hint && nat_le r.hint most

-- A number by its sign, set or not, and its size. There is one zero.
unfoldable pub signed : Bool → ℕ → ℤ
signed minus n = cond minus (neg_ℤ (pos n)) (pos n)

-- A refusal has the place 0 and the value 0.
unfoldable pub refused : WholeNumber
refused = record { refusal = refusals.not_in_fractions; place = 0; value = pos 0 }

-- No refusal, and the whole number.
unfoldable pub accepted : ℤ → WholeNumber
accepted z = record { refusal = 0; place = 0; value = z }
