-- `tib_decimals::answer` meets its contract.
use native.Mathlib.Omega.{arith}
use mathlib.Core.Path.{ap, ◌∙◌}
use mir.Syntax.{w64}
use mir.ValLaws.{to_z-of_z}
use Rattle.tib_real.specs.WholeNumber.{accepted, refused}
use Rattle.tib_decimals.proofs.InRange.{too_large, in_range_lem}
use Rattle.tib_decimals.proofs.answer.Goals as goal

pub returns-then-sign-n : goal.returns-then-sign-n
unfolding refused
returns-then-sign-n c = let s = c in too_large s.args.sign s.args.n s.requires (omega arith)

pub returns : goal.returns
unfolding accepted
returns c =
    let s = c in
    ap accepted (to_z-of_z w64 c.with_sign.result (record { sfits = c.with_sign.type_inv }) ∙ c.with_sign.ensures)
    ∙ in_range_lem s.args.sign s.args.n s.requires (omega arith)
