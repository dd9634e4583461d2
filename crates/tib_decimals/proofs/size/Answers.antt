-- `tib_decimals::size` meets its contract.
use Prim.Native.Nat.{ℕ, ◌+◌, ◌-◌, ◌^◌, ◌<◌}
use native.Mathlib.Omega.{arith}
use mathlib.Core.Path.{◌∙◌}
use Rattle.tib_decimals.specs.internal.Sizes.{size_of}
use Rattle.tib_decimals.proofs.Capped.{not_capped, is_capped}
use Rattle.tib_decimals.proofs.Exponents.{far_up, far_down, shifted, shifted_below, between, small_below, low_product_below, high_below, low_below, parts_product}
use Rattle.tib_decimals.proofs.size.Goals as goal
use Rattle.tib_decimals.proofs.size.Goals.{Start}

-- The size, and the first factor with ten bits more.
abbrev result : Start → ℕ
result s = size_of s.args.m s.args.f s.args.e

abbrev factor : Start → ℕ
factor s = shifted s.args.m s.args.f s.args.e s.requires

factor-below : (s : Start) → factor s < 2 ^ 63
factor-below s = shifted_below s.args.m s.args.f s.args.e s.requires

pub returns-then-e-ge1085 : goal.returns-then-e-ge1085
returns-then-e-ge1085 c = let s = c in is_capped (result (goal.at.returns-then-e-ge1085 c).Start) (far_up s.args.m s.args.f s.args.e s.requires (omega arith))

pub returns-then-e-lt1001 : goal.returns-then-e-lt1001
returns-then-e-lt1001 c = let s = c in rw (far_down s.args.m s.args.f s.args.e s.requires (omega arith)) (not_capped 0 (omega arith))

pub overflow_mul-product : goal.overflow_mul-product
overflow_mul-product c = let s = c in record { fits = omega (arith, low_product_below (factor (goal.at.overflow_mul-product c).Start) s.args.f (factor-below (goal.at.overflow_mul-product c).Start) s.requires.most) }

pub overflow_mul-high : goal.overflow_mul-high
overflow_mul-high c = let s = c in record { fits = omega (arith, high_below (factor (goal.at.overflow_mul-high c).Start) s.args.f (factor-below (goal.at.overflow_mul-high c).Start) s.requires.most) }

pub overflow_add-high : goal.overflow_add-high
overflow_add-high c = let s = c in record { fits = omega (arith, high_below (factor (goal.at.overflow_add-high c).Start) s.args.f (factor-below (goal.at.overflow_add-high c).Start) s.requires.most) }

pub small-requires : goal.small-requires
small-requires c =
    let s = c in (
      high_below (factor (goal.at.small-requires c).Start) s.args.f (factor-below (goal.at.small-requires c).Start) s.requires.most,
      low_below (factor (goal.at.small-requires c).Start) s.args.f (factor-below (goal.at.small-requires c).Start) s.requires.most,
      omega arith,
      omega arith,
    )

pub returns-then-e-lt1053 : goal.returns-then-e-lt1053
returns-then-e-lt1053 c =
    let s = c in
    let e = s.args.e in
    c.small.ensures
    ∙ rw (parts_product (factor (goal.at.returns-then-e-lt1053 c).Start) s.args.f (factor-below (goal.at.returns-then-e-lt1053 c).Start) s.requires.most, between s.args.m s.args.f e s.requires (1053 - e + 32) (omega arith))
    (not_capped (result (goal.at.returns-then-e-lt1053 c).Start) (small_below s.args.m s.args.f e s.requires (omega arith)))

pub large-requires : goal.large-requires
large-requires c =
    let s = c in (
      high_below (factor (goal.at.large-requires c).Start) s.args.f (factor-below (goal.at.large-requires c).Start) s.requires.most,
      low_below (factor (goal.at.large-requires c).Start) s.args.f (factor-below (goal.at.large-requires c).Start) s.requires.most,
      omega arith,
      omega arith,
    )

pub returns : goal.returns
returns c =
    let s = c in
    let e = s.args.e in
    c.large.ensures
    ∙ rw (parts_product (factor (goal.at.returns c).Start) s.args.f (factor-below (goal.at.returns c).Start) s.requires.most, between s.args.m s.args.f e s.requires (1085 - e) (omega arith))
