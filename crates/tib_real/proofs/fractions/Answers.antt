-- `tib_real::fractions` meets its contract.
use Rattle.std.proofs.Common.{◌≡◌, true, sym, ◌∙◌}
use Rattle.tib_real.specs.WholeNumber.{hint_within, refused}
use Rattle.tib_real.specs.InFractions.{fractions_of}
use Rattle.tib_real.proofs.Hints.{within}
use Rattle.tib_real.proofs.fractions.Goals as goal
use Rattle.tib_real.proofs.fractions.Goals.{Else-not-hint_within}

-- The hint is within the limits.
hint : (c : Else-not-hint_within) → hint_within 1 8 c.args.r ≡ true
hint c = sym c.hint_within.ensures ∙ c.if-not-hint_within.false

pub returns-then-not-hint_within : goal.returns-then-not-hint_within
unfolding fractions_of refused
returns-then-not-hint_within c = rw (sym c.hint_within.ensures ∙ c.if-not-hint_within.true)

pub in_fractions-requires : goal.in_fractions-requires
in_fractions-requires c = let w = within 1 8 c.args.r (hint (goal.at.in_fractions-requires c).Else-not-hint_within) in (w.not_below, w.not_above)

pub returns : goal.returns
unfolding fractions_of
returns c = rw (hint (goal.at.returns c).Else-not-hint_within) c.in_fractions.ensures
