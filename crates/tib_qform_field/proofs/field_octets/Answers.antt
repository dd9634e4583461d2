-- `tib_qform_field::field_octets` meets its contract.
use Prim.Native.Nat.{ℕ, ◌+◌, ◌-◌, ◌≤◌, ◌<◌}
use native.Mathlib.Omega.{arith}
use mathlib.Core.Path.{◌≡◌, sym, ◌∙◌}
use mathlib.Core.Bool.{true}
use mathlib.Core.List.{List}
use lib.ListN.{length, get_or}
use Rattle.tib_qform_field.specs.Layout.{flagged}
use Rattle.tib_qform_field.proofs.Tests.{fid_small, at_end, cut, unflagged, not_noted, past_end, measured}
use Rattle.tib_qform_field.proofs.field_octets.Goals as goal
use Rattle.tib_qform_field.proofs.field_octets.Goals.{After-fid}

pub returns-then-s-at : goal.returns-then-s-at
returns-then-s-at c =
    let a = c.args in at_end a.cells.now a.s.now a.at c.if-s-at.true

pub returns-then-remaining-lt2 : goal.returns-then-remaining-lt2
returns-then-remaining-lt2 c =
    let a = c.args in cut a.cells.now a.s.now a.at c.if-s-at.false c.if-remaining-lt2.true

pub returns-then-not-flagged : goal.returns-then-not-flagged
returns-then-not-flagged c =
    let a = c.args in
    unflagged a.cells.now a.s.now a.at c.if-remaining-lt2.false (sym c.flagged.ensures ∙ c.if-not-flagged.true)

-- What is known after the fid is read.
module _ (c : After-fid) where
  abbrev octets : List ℕ
  octets = c.args.s.now

  abbrev at : ℕ
  at = c.args.at

  two-left : 2 ≤ length octets - at
  two-left = c.if-remaining-lt2.false

  both-flags : flagged (get_or octets at 0) ≡ true
  both-flags = sym c.flagged.ensures ∙ c.if-not-flagged.false

  number_small : c.fid.result < 16384
  number_small =
      let e = c.fid.ensures in
      let h = fid_small (get_or octets at 0) (get_or octets (at + 1) 0) (c.type_inv.s (at + 1)).fits in
      omega arith

pub offset_bounds-cells-fid : goal.offset_bounds-cells-fid
offset_bounds-cells-fid c = let h = number_small (goal.at.offset_bounds-cells-fid c).After-fid in omega arith

pub bounds-cells-fid : goal.bounds-cells-fid
bounds-cells-fid c = number_small (goal.at.bounds-cells-fid c).After-fid

pub returns-then-half-eq0 : goal.returns-then-half-eq0
returns-then-half-eq0 c =
    let a = c.args in
    not_noted a.cells.now a.s.now a.at (two-left (goal.at.returns-then-half-eq0 c).After-fid) (both-flags (goal.at.returns-then-half-eq0 c).After-fid) c.fid.result c.from-half.result c.fid.ensures c.from-half.ensures c.if-half-eq0.true

pub returns-then-remaining-half : goal.returns-then-remaining-half
returns-then-remaining-half c =
    let a = c.args in
    past_end a.cells.now a.s.now a.at (two-left (goal.at.returns-then-remaining-half c).After-fid) (both-flags (goal.at.returns-then-remaining-half c).After-fid) c.fid.result c.from-half.result c.fid.ensures c.from-half.ensures c.if-half-eq0.false c.if-remaining-half.true

pub returns : goal.returns
returns c =
    let a = c.args in
    measured a.cells.now a.s.now a.at (two-left (goal.at.returns c).After-fid) (both-flags (goal.at.returns c).After-fid) c.fid.result c.from-half.result c.fid.ensures c.from-half.ensures c.if-half-eq0.false c.if-remaining-half.false
