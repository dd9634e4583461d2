-- `tib_qform::traverse` meets its contract: at each turn the fields passed stand before those of the rest.
use native.Mathlib.Omega.{arith}
use Prim.Native.Nat.{ℕ, ◌+◌, ◌≤◌}
use mathlib.Core.Path.{◌≡◌, ap, ◌∙◌, subst}
use mathlib.Core.List.{List}
use lib.ListN.{length, drop}
use Rattle.std.specs.Prelude.{Err}
use Rattle.octets.proofs.Number.{octets_of_slice}
use Rattle.reading.specs.Refusals.{number}
use Rattle.reading.specs.declared.Fault.{Fault}
use Rattle.reading.specs.internal.Verdicts.{verdict}
use Rattle.tib_field.specs.Steps.{Over}
use Rattle.tib_field.specs.internal.Measured.{step_of}
use Rattle.tib_qform_field.specs.internal.Octets.{octets_by}
use Rattle.tib_qform_field.proofs.Octets.{field_inside}
use Rattle.tib_qform.proofs.TraverseLoop.{start, at_end, at_fault, over_field}
use Rattle.tib_qform.proofs.traverse.Goals as goal
use Rattle.tib_qform.proofs.traverse.Goals.{In-Ok}

pub loop-i-init : goal.loop-i-init
loop-i-init c = start c.args.cells.now c.args.s.now c.requires

pub returns-in-Err : goal.returns-in-Err
returns-in-Err c =
    let a = c.args in
    let k = subst (λ r. step_of r ≡ octets_by a.cells.now (drop c.loop-i.i a.s.now)) c.in-Err.is c.field_octets.ensures in
    λ es noted.
    ap verdict (ap (λ (f : Fault). Err f) c.at.ensures)
    ∙ at_fault a.cells.now a.s.now c.loop-i.i c.loop-i.fields c.loop-i.invariant (octets_of_slice a.s.now (λ j. (c.type_inv.s j).fits)) (number c.in-Err.refusal) k es noted

-- After a field that was measured.
module _ (c : In-Ok) where
  abbrev cells : List ℕ
  cells = c.args.cells.now

  abbrev s : List ℕ
  s = c.args.s.now

  abbrev i : ℕ
  i = c.loop-i.i

  abbrev n : ℕ
  n = c.in-Ok.octets

  stepped : Over n ≡ octets_by cells (drop i s)
  stepped = subst (λ r. step_of r ≡ octets_by cells (drop i s)) c.in-Ok.is c.field_octets.ensures

  inside : (2 ≤ n) × (i + n ≤ length s)
  inside = field_inside cells s i n stepped c.loop-i-test.true

pub overflow_add-i : goal.overflow_add-i
overflow_add-i c = let r = (inside c).1 in omega arith

pub loop-i-smaller : goal.loop-i-smaller
loop-i-smaller c = let r = inside c in let p = r.0 in let q = r.1 in omega arith

pub loop-i-preserved : goal.loop-i-preserved
loop-i-preserved c =
    over_field (cells c) (s c) (i c) c.loop-i.fields c.loop-i.invariant (octets_of_slice (s c) (λ j. (c.type_inv.s j).fits)) c.loop-i-test.true (n c) (stepped c)

pub returns : goal.returns
returns c = let a = c.args in at_end a.cells.now a.s.now c.loop-i.i c.loop-i.fields c.loop-i.invariant c.loop-i-test.false
