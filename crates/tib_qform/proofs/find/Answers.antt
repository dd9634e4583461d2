-- `tib_qform::find` meets its contract: at each turn the field that is looked for is among those that remain.
use Prim.Native.Nat.{ℕ, ◌+◌, ◌≤◌}
use native.Mathlib.Omega.{arith}
use mathlib.Core.Path.{◌≡◌, refl, subst}
use mathlib.Core.List.{List}
use lib.ListN.{length, drop}
use Rattle.octets.specs.Number.{Octets}
use Rattle.octets.proofs.Number.{octets_of_slice}
use Rattle.reading.specs.Refusals.{number}
use Rattle.tib_field.specs.Steps.{Fault, Over}
use Rattle.tib_field.specs.internal.Measured.{step_of}
use Rattle.tib_qform_field.specs.internal.Octets.{octets_by}
use Rattle.tib_qform_field.proofs.Octets.{field_inside}
use Rattle.tib_qform.proofs.Kths.{going, ended, at_fault, this_one, later_one}
use Rattle.tib_qform.proofs.Results.{ok_is_some, ok_is_none}
use Rattle.tib_qform.proofs.find.Goals as goal
use Rattle.tib_qform.proofs.find.Goals.{In_ok-octets}

pub loop-i-init : goal.loop-i-init
loop-i-init c = let a = c.args in λ es noted. going es a.s.now a.k

pub returns-in_err-octets : goal.returns-in_err-octets
returns-in_err-octets c =
    let a = c.args in
    let i = c.loop-i.i in
    let w = ok_is_none c.field_octets.result c.ok.ensures.value c.in_err-octets.was in
    let e = subst (λ r. step_of r ≡ octets_by a.cells.now (drop i a.s.now)) w.1 c.field_octets.ensures in
    at_fault a.cells.now a.s.now a.k i c.loop-i.remaining c.loop-i.invariant (octets_of_slice a.s.now (λ j. (c.type_inv.s j).fits)) (Fault (number w.0)) e c.loop-i-test.true (number w.0) refl c.from_residual.result

-- After a field that was measured.
module _ (c : In_ok-octets) where
  abbrev cells : List ℕ
  cells = c.args.cells.now

  abbrev s : List ℕ
  s = c.args.s.now

  abbrev i : ℕ
  i = c.loop-i.i

  abbrev n : ℕ
  n = c.in_ok-octets.octets

  stepped : Over n ≡ octets_by cells (drop i s)
  stepped =
      subst (λ r. step_of r ≡ octets_by cells (drop i s)) (ok_is_some c.field_octets.result c.ok.ensures.value c.in_ok-octets.was)
      c.field_octets.ensures

  octets : Octets s
  octets = octets_of_slice s (λ j. (c.type_inv.s j).fits)

  inside : (2 ≤ n) × (i + n ≤ length s)
  inside = field_inside cells s i n stepped c.loop-i-test.true

pub bounds-s-i-then-remaining-eq0 : goal.bounds-s-i-then-remaining-eq0
bounds-s-i-then-remaining-eq0 c = let r = inside (goal.at.bounds-s-i-then-remaining-eq0 c).In_ok-octets in let p = r.0 in let q = r.1 in omega arith

pub returns-then-remaining-eq0 : goal.returns-then-remaining-eq0
returns-then-remaining-eq0 c =
    let b = (goal.at.returns-then-remaining-eq0 c).In_ok-octets in
    this_one (cells b) (s b) b.args.k (i b) b.loop-i.remaining b.loop-i.invariant (octets b) (Over (n b)) (stepped b) b.loop-i-test.true c.if-remaining-eq0.true c.fid.result c.fid.ensures

pub overflow_add-i-in-loop-i : goal.overflow_add-i-in-loop-i
overflow_add-i-in-loop-i c = let r = (inside (goal.at.overflow_add-i-in-loop-i c).In_ok-octets).1 in omega arith

pub loop-i-smaller : goal.loop-i-smaller
loop-i-smaller c = let r = inside (goal.at.loop-i-smaller c).In_ok-octets in let p = r.0 in let q = r.1 in omega arith

pub loop-i-preserved : goal.loop-i-preserved
loop-i-preserved c =
    let b = (goal.at.loop-i-preserved c).In_ok-octets in
    later_one (cells b) (s b) b.args.k (i b) b.loop-i.remaining b.loop-i.invariant (octets b) (Over (n b)) (stepped b) b.loop-i-test.true (n b) refl c.if-remaining-eq0.false

pub returns : goal.returns
returns c =
    let a = c.args in
    λ es noted accepts.
    ended a.cells.now a.s.now a.k c.loop-i.i c.loop-i.remaining c.loop-i.invariant c.loop-i-test.false es noted accepts
