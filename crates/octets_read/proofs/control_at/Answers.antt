-- `octets_read::control_at` meets its contract.
use Prim.Native.Nat.{◌+◌, ◌<◌}
use native.Mathlib.Omega.{arith}
use mathlib.Core.Path.{◌≡◌, ap, ◌∙◌}
use lib.ListN.{length, drop, length-drop}
use Rattle.octets.specs.Control.{control}
use Rattle.octets.specs.Short.{short_control}
use Rattle.octets.proofs.Number.{octets_of_slice}
use Rattle.octets_read.proofs.Leads.{control_none, octets_at}
use Rattle.octets_read.proofs.Shortness.{short_none, tag_at, short_tag_at, length_at, short_length_at}
use Rattle.octets_read.proofs.control_at.Goals as goal

pub returns-then-s-i : goal.returns-then-s-i
returns-then-s-i c =
    let a = c.args in
    let h = c.if-s-i.true in
    let e : length (drop a.i a.s.now) ≡ 0 = simp length-drop (omega arith) in record { control_value = control_none (drop a.i a.s.now) e; shortest_value = short_none (drop a.i a.s.now) e }

pub returns-then-c-lt236 : goal.returns-then-c-lt236
returns-then-c-lt236 c =
    let w = c in
    let then = w in
    let two = then in
    let a = two.args in
    let s = a.s.now in
    let high = then.if-c-lt236.true in
    let inside : a.i + 1 < length s = omega (arith, two.if-s-i-ge2.true) in
    let low = then.if-c-ge224.true in record {
      control_value = c.of_two.ensures.control_value ∙ tag_at s a.i _ _ inside low high w.from-tag.ensures c.from.ensures;
      shortest_value = c.of_two.ensures.shortest_value ∙ short_tag_at s a.i _ _ inside low high w.from-tag.ensures c.from.ensures
          (octets_of_slice s (λ i. (two.type_inv.s i).fits));
    }

pub returns-then-c-eq12 : goal.returns-then-c-eq12
returns-then-c-eq12 c =
    let w = c in
    let then = w in
    let two = then in
    let a = two.args in
    let s = a.s.now in
    let twelve = then.if-c-eq12.true in
    let inside : a.i + 1 < length s = omega (arith, two.if-s-i-ge2.true) in
    let high = then.if-c-lt224.true in record {
      control_value = c.of_two-then-c-eq12.ensures.control_value ∙ length_at s a.i _ _ inside high w.from-length.ensures c.from-then-c-eq12.ensures twelve;
      shortest_value = c.of_two-then-c-eq12.ensures.shortest_value ∙ short_length_at s a.i _ _ inside high w.from-length.ensures c.from-then-c-eq12.ensures twelve
          (octets_of_slice s (λ i. (two.type_inv.s i).fits));
    }

pub returns : goal.returns
returns c =
    let k = c in
    let a = k.args in
    let e = octets_at a.s.now a.i k.if-s-i.false in record { control_value = c.control_after.ensures.control_value ∙ ap control e; shortest_value = c.control_after.ensures.shortest_value ∙ ap short_control e }
