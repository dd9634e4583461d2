-- `tib_real::widen` meets its contract.
use Rattle.std.proofs.Common.{◌≡◌, sym, ◌∙◌, arith}
use lib.Bits.{and_mask}
use Rattle.tib_real.specs.Parts.{four, exponent}
use Rattle.tib_real.proofs.Masks.{four_exponent, four_number, four_value_number, four_fits_eight, moved_widened}
use Rattle.tib_real.proofs.Kept.{converted}
use Rattle.tib_real.proofs.widen.Goals as goal
use Rattle.tib_real.proofs.widen.Goals.{Else-b-eq255}

-- The exponent is not all ones.
number : (c : Else-b-eq255) → exponent four c.args.b ≡ 255 → ⊥
number c e = c.if-b-eq255.false (four_exponent c.args.b ∙ e)

pub overflow_add-result-then-b-eq255 : goal.overflow_add-result-then-b-eq255
overflow_add-result-then-b-eq255 c = record { fits = omega (arith, and_mask c.args.b 23) }

pub returns-then-b-eq255 : goal.returns-then-b-eq255
returns-then-b-eq255 c = moved_widened c.args.b c.requires (sym (four_exponent c.args.b) ∙ c.if-b-eq255.true)

pub float_from_bits-result : goal.float_from_bits-result
float_from_bits-result c = four_number c.args.b (number (goal.at.float_from_bits-result c).Else-b-eq255)

pub float_to_float-result : goal.float_to_float-result
float_to_float-result c = four_fits_eight c.args.b (number (goal.at.float_to_float-result c).Else-b-eq255)

pub float_to_bits-result : goal.float_to_bits-result
float_to_bits-result c = four_value_number c.args.b (number (goal.at.float_to_bits-result c).Else-b-eq255)

pub returns : goal.returns
returns c = converted c.args.b (four_value_number c.args.b (number (goal.at.returns c).Else-b-eq255))
