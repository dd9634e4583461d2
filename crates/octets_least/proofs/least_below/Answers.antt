-- `octets_least::least_below` meets its contract.
use Prim.Native.Nat.{◌+◌, ◌*◌, ◌-◌, ◌%◌, ◌^◌, ◌<◌, ◌≤◌}
use native.Mathlib.Omega.{arith}
use mathlib.Core.Path.{◌≡◌}
use Rattle.octets.specs.Signed.{lowest}
use Rattle.octets.proofs.Number.{width_bound, width_above}
use Rattle.octets.proofs.Integer.{lowest_bounds, lowest_is}
use Rattle.octets_least.proofs.Signs.{masked_fits, below_is}
use Rattle.octets_least.proofs.least_below.Goals as goal
use Rattle.octets_least.proofs.least_below.Goals.{After-width-n}

width_is : (c : After-width-n) → (1 ≤ c.width-n.result) × (c.width-n.result ≤ 8)
width_is c =
    let v = 2 * c.args.k + 1 in
    let b = width_bound v in
    let h = c.requires in
    let p = width_above v 0 (omega arith) (omega arith) in
    (omega (arith, c.width-n.ensures), omega (arith, c.width-n.ensures))

bounds : (c : After-width-n) → (0 < lowest c.width-n.result) × (lowest c.width-n.result ≤ 2 ^ 63)
bounds c = let r = width_is c in lowest_bounds c.width-n.result r.0 r.1

low_is : (c : After-width-n) → (1 * 2 ^ (8 * c.width-n.result - 1)) % 2 ^ 64 ≡ lowest c.width-n.result
low_is c = let r = width_is c in lowest_is c.width-n.result r.0 r.1

pub overflow_mul-low : goal.overflow_mul-low
overflow_mul-low c = let r = width_is (goal.at.overflow_mul-low c).After-width-n in record { fits = omega (arith, r.1) }

pub overflow_sub-low : goal.overflow_sub-low
overflow_sub-low c = let r = width_is (goal.at.overflow_sub-low c).After-width-n in omega (arith, r.0)

pub overflow_shl-low : goal.overflow_shl-low
overflow_shl-low c = let r = width_is (goal.at.overflow_shl-low c).After-width-n in omega (arith, r.1)

pub overflow_sub-result : goal.overflow_sub-result
overflow_sub-result c = let w = (goal.at.overflow_sub-result c).After-width-n in rw (low_is w) (bounds w).0

pub overflow_add-result-2 : goal.overflow_add-result-2
overflow_add-result-2 c =
    let w = (goal.at.overflow_add-result-2 c).After-width-n in
    let b = bounds w in
    record { fits = rw (low_is w) (masked_fits c.args.k (lowest w.width-n.result) b.0 b.1) }

pub returns : goal.returns
returns c = below_is c.args.k c.width-n.result _ c.width-n.ensures (low_is (goal.at.returns c).After-width-n)
