-- `tib_qform_field::fid` meets its contract.
use Prim.Native.Nat.{ℕ, ◌+◌, ◌*◌}
use mathlib.Core.Path.{ap₂, ◌∙◌}
use lib.Bits.{and_mask}
use Rattle.tib_qform_field.specs.Layout.{fid}
use Rattle.tib_qform_field.proofs.fid.Goals as goal

pub returns : goal.returns
unfolding fid
returns c = ap₂ (λ (a b : ℕ). a * 256 + b) (c.from.ensures ∙ and_mask c.args.high 6) c.from-2.ensures
