-- `tib_decimals::decimals` meets its contract.
use native.Mathlib.Omega.{arith}
use mathlib.Core.Path.{sym, ◌∙◌}
use Rattle.tib_real.specs.WholeNumber.{refused}
use Rattle.tib_real.proofs.Hints.{Within, within}
use Rattle.tib_decimals.specs.InDecimals.{decimals_of}
use Rattle.tib_decimals.proofs.decimals.Goals as goal
use Rattle.tib_decimals.proofs.decimals.Goals.{Else-not-hint_within}

-- The hint is within the limits.
hint : (c : Else-not-hint_within) → Within 17 25 c.args.r
hint c = within 17 25 c.args.r (sym c.hint_within.ensures ∙ c.if-not-hint_within.false)

pub returns-then-not-hint_within : goal.returns-then-not-hint_within
unfolding decimals_of refused
returns-then-not-hint_within c = rw (sym c.hint_within.ensures ∙ c.if-not-hint_within.true)

pub overflow_sub-r : goal.overflow_sub-r
overflow_sub-r c = let h = hint (goal.at.overflow_sub-r c).Else-not-hint_within in omega arith

pub in_decimals-requires : goal.in_decimals-requires
in_decimals-requires c = let h = hint (goal.at.in_decimals-requires c).Else-not-hint_within in (omega arith, omega arith)

pub returns : goal.returns
unfolding decimals_of
returns c =
    let b = c in
    let e = sym b.hint_within.ensures ∙ b.if-not-hint_within.false in
    rw e c.in_decimals.ensures
