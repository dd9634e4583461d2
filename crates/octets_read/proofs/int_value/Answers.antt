-- `octets_read::int_value` meets its contract.
use mathlib.Core.Path.{◌∙◌}
use Prim.Native.Nat.{◌<◌}
use lib.ListN.{length}
use mir.Syntax.{w64}
use mir.ValLaws.{to_z-of_z, to_z_pos}
use Rattle.octets.specs.Number.{Octets}
use Rattle.octets.proofs.Integer.{lowest_bounds}
use native.Mathlib.Omega.{arith}
use Rattle.octets.proofs.Number.{octets_of_slice}
use Rattle.octets_read.proofs.Signs.{clear_bound, set_bounds, signed_long, signed_none, signed_clear, signed_lowest, signed_minus}
use Rattle.octets_read.proofs.int_value.Goals as goal
use Rattle.octets_read.proofs.int_value.Goals.{After-shared_slice_known-1, Else-n-eq0}

octets : (k : After-shared_slice_known-1) → Octets k.args.s.now
octets k = octets_of_slice k.args.s.now (λ i. (k.type_inv.s i).fits)

nonempty : (k : Else-n-eq0) → 0 < length k.args.s.now
nonempty k = omega arith

pub returns-then-n-gt8 : goal.returns-then-n-gt8
returns-then-n-gt8 c = signed_long c.args.s.now c.if-n-gt8.true

pub returns-then-n-eq0 : goal.returns-then-n-eq0
returns-then-n-eq0 c = signed_none c.args.s.now c.if-n-eq0.true

pub overflow_cast-result : goal.overflow_cast-result
overflow_cast-result c =
    let k = c in
    let s = k.args.s.now in
    rw c.big_endian-v.ensures
    (record { sfits = clear_bound s (octets (goal.at.overflow_cast-result c).After-shared_slice_known-1) (nonempty (goal.at.overflow_cast-result c).Else-n-eq0) k.if-n-gt8.false c.if-s-lt128.true })

pub returns-then-s-lt128 : goal.returns-then-s-lt128
returns-then-s-lt128 c =
    let k = c in
    let s = k.args.s.now in
    to_z_pos w64 _ (rw c.big_endian-v.ensures (clear_bound s (octets (goal.at.returns-then-s-lt128 c).After-shared_slice_known-1) (nonempty (goal.at.returns-then-s-lt128 c).Else-n-eq0) k.if-n-gt8.false c.if-s-lt128.true)) ∙ rw c.big_endian-v.ensures
    (signed_clear s (nonempty (goal.at.returns-then-s-lt128 c).Else-n-eq0) k.if-n-gt8.false c.if-s-lt128.true)

pub overflow_sub-m : goal.overflow_sub-m
overflow_sub-m c =
    let k = c in
    let s = k.args.s.now in
    rw (c.sign_bit-low.ensures, c.big_endian-v.ensures)
    (set_bounds s (octets (goal.at.overflow_sub-m c).After-shared_slice_known-1) (nonempty (goal.at.overflow_sub-m c).Else-n-eq0) c.if-s-lt128.false).0

pub minus-requires : goal.minus-requires
minus-requires c =
    let k = c in
    let s = k.args.s.now in
    rw c.sign_bit-low.ensures (lowest_bounds (length s) (nonempty (goal.at.minus-requires c).Else-n-eq0) k.if-n-gt8.false)

pub minus-requires-else-m-eq0 : goal.minus-requires-else-m-eq0
minus-requires-else-m-eq0 c =
    let k = c in
    let s = k.args.s.now in
    let low = lowest_bounds (length s) (nonempty (goal.at.minus-requires-else-m-eq0 c).Else-n-eq0) k.if-n-gt8.false in
    let rest = set_bounds s (octets (goal.at.minus-requires-else-m-eq0 c).After-shared_slice_known-1) (nonempty (goal.at.minus-requires-else-m-eq0 c).Else-n-eq0) c.if-s-lt128.false in
    omega (arith, c.sign_bit-low.ensures, c.big_endian-v.ensures, c.if-m-eq0.false)

pub returns-then-m-eq0 : goal.returns-then-m-eq0
returns-then-m-eq0 c =
    let a = c in
    let k = a in
    let s = k.args.s.now in
    let z = rw (a.big_endian-v.ensures, a.sign_bit-low.ensures) at c.if-m-eq0.true in
    to_z-of_z w64 c.minus.result (record { sfits = c.minus.type_inv }) ∙ c.minus.ensures
    ∙ rw a.sign_bit-low.ensures (signed_lowest s (octets (goal.at.returns-then-m-eq0 c).After-shared_slice_known-1) (nonempty (goal.at.returns-then-m-eq0 c).Else-n-eq0) k.if-n-gt8.false a.if-s-lt128.false z)

pub returns-else-m-eq0 : goal.returns-else-m-eq0
returns-else-m-eq0 c =
    let a = c in
    let k = a in
    let s = k.args.s.now in
    let z = rw (a.big_endian-v.ensures, a.sign_bit-low.ensures) at c.if-m-eq0.false in
    to_z-of_z w64 c.minus-else-m-eq0.result (record { sfits = c.minus-else-m-eq0.type_inv }) ∙ c.minus-else-m-eq0.ensures
    ∙ rw (a.big_endian-v.ensures, a.sign_bit-low.ensures)
    (signed_minus s (octets (goal.at.returns-else-m-eq0 c).After-shared_slice_known-1) (nonempty (goal.at.returns-else-m-eq0 c).Else-n-eq0) k.if-n-gt8.false a.if-s-lt128.false z)
