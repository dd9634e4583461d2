-- `tib_decimals::in_decimals` meets its contract.
use native.Mathlib.Omega.{arith}
use mathlib.Core.Path.{◌∙◌}
use lib.Bits.{mask_lt}
use Rattle.tib_real.proofs.Masks.{eight_exponent}
use Rattle.tib_decimals.proofs.Powers.{factors}
use Rattle.tib_decimals.proofs.InRange.{exponent_below, fraction_is, bits_answer}
use Rattle.tib_decimals.proofs.in_decimals.Goals as goal

pub overflow_add-m : goal.overflow_add-m
overflow_add-m c = record { fits = omega (arith, mask_lt c.args.bits 52) }

pub overflow_add-e : goal.overflow_add-e
overflow_add-e c =
    let b = c.args.bits in
    let e = eight_exponent b in
    let h = exponent_below b in
    record { fits = omega arith }

pub size-requires : goal.size-requires
size-requires c =
    let s = c in
    rw (fraction_is s.args.bits, eight_exponent s.args.bits, c.power_of_five.ensures) (factors s.args.bits s.args.k s.requires.0 s.requires.1)

pub returns : goal.returns
returns c =
    let s = c in
    let b = s.args.bits in
    let n = rw (fraction_is b, eight_exponent b, c.power_of_five.ensures) at c.size.ensures in
    c.answer.ensures ∙ rw n (bits_answer b s.args.k s.requires.0 s.requires.1 (omega arith))
