-- `tib_real::in_fractions` meets its contract.
use Rattle.std.proofs.Common.{◌≡◌, ℕ, ◌-◌, ◌/◌, ◌%◌, ◌^◌, ◌<◌, ◌≤◌, eqb, ℤ, sym, ap, ◌∙◌, arith, w64, to_z, of_z, eqb-true}
use lib.Ieee.{binary64, eq, of_int}
use lib.Ieee.Exact.{HasValue}
use mir.ValLaws.{to_z-of_z}
use Rattle.tib_real.specs.Parts.{eight, negative, exponent}
use Rattle.tib_real.specs.WholeNumber.{signed, accepted, refused}
use Rattle.tib_real.specs.InFractions.{scaled}
use Rattle.tib_real.proofs.Masks.{eight_exponent, eight_number}
use Rattle.tib_real.proofs.Size.{too_large, not_whole, scaled_below, quotient_below, whole}
use Rattle.tib_real.proofs.Product.{product, product_value, power_fits}
use Rattle.tib_real.proofs.Whole.{in_range_lem, truncated, whole_fits, compared}
use borrow.Author.Tests.{eqb-false}
use Rattle.tib_real.proofs.in_fractions.Goals as goal
use Rattle.tib_real.proofs.in_fractions.Goals.{After-truncating_f64_to_i64-whole, Else-h-bits}

-- The bits, the hint and the product's size, after the test of the exponent.
abbrev bits : Else-h-bits → ℕ
bits k = k.args.bits

abbrev hint : Else-h-bits → ℕ
hint k = k.args.h

abbrev size : Else-h-bits → ℕ
size k = scaled (bits k) (hint k)

below : (k : Else-h-bits) → exponent eight (bits k) < 1076 - hint k
below k = omega (arith, eight_exponent (bits k))

quotient : (k : Else-h-bits) → size k / 2 ^ 1074 < 2 ^ 53
quotient k = quotient_below (bits k) (hint k) k.requires.1 (below k)

value : (k : Else-h-bits) → HasValue (product (bits k) (hint k)) (negative eight (bits k)) (size k) (2 ^ 1074)
value k = product_value (bits k) (hint k) k.requires.1 (below k)

-- The truncated product, and its comparison with the product.
abbrev place : After-truncating_f64_to_i64-whole → Else-h-bits
place t = t.before.before

abbrev truncation : After-truncating_f64_to_i64-whole → ℤ
truncation t = to_z w64 (of_z w64 t.truncating_f64_to_i64-whole.result)

result : (t : After-truncating_f64_to_i64-whole) → truncation t ≡ signed (negative eight (bits (place t))) (size (place t) / 2 ^ 1074)
result t =
    let k = place t in
    to_z-of_z w64 t.truncating_f64_to_i64-whole.result (record { sfits = t.truncating_f64_to_i64-whole.type_inv })
    ∙ t.truncating_f64_to_i64-whole.ensures
    ∙ truncated (product (bits k) (hint k)) (negative eight (bits k)) (size k) (value k) (quotient k)

test : (t : After-truncating_f64_to_i64-whole)
    → eq (of_int binary64 (truncation t)) (product (bits (place t)) (hint (place t))) ≡ eqb (size (place t) % 2 ^ 1074) 0
test t =
    let k = place t in
    rw (result t) (compared (product (bits k) (hint k)) (negative eight (bits k)) (size k) (value k) (quotient k))

pub returns-then-h-bits : goal.returns-then-h-bits
unfolding refused
returns-then-h-bits c =
    let a = c in
    let e : 1076 - a.args.h ≤ exponent eight a.args.bits = omega (arith, eight_exponent a.args.bits) in
    too_large a.args.bits a.args.h a.requires.1 e

pub float_from_bits-product : goal.float_from_bits-product
float_from_bits-product c = let k = below (goal.at.float_from_bits-product c).Else-h-bits in eight_number (bits (goal.at.float_from_bits-product c).Else-h-bits) (λ e. omega arith)

pub int_to_float-product : goal.int_to_float-product
int_to_float-product c = power_fits (hint (goal.at.int_to_float-product c).Else-h-bits) c.requires.1

pub truncating_f64_to_i64-whole-requires : goal.truncating_f64_to_i64-whole-requires
truncating_f64_to_i64-whole-requires c =
    let k = (goal.at.truncating_f64_to_i64-whole-requires c).Else-h-bits in
    let r = in_range_lem (product (bits k) (hint k)) (negative eight (bits k)) (size k) (value k) (scaled_below (bits k) (hint k) k.requires.1 (below k)) in
    record { lower_bound = r.0; upper_bound = r.1 }

pub int_to_float-whole : goal.int_to_float-whole
int_to_float-whole c =
    let k = place (goal.at.int_to_float-whole c).After-truncating_f64_to_i64-whole in
    rw (result (goal.at.int_to_float-whole c).After-truncating_f64_to_i64-whole) (whole_fits (negative eight (bits k)) (size k / 2 ^ 1074) (quotient k))

pub returns-then-whole-product : goal.returns-then-whole-product
unfolding accepted
returns-then-whole-product c =
    let t = c in
    let k = place (goal.at.returns-then-whole-product c).After-truncating_f64_to_i64-whole in
    ap accepted (result (goal.at.returns-then-whole-product c).After-truncating_f64_to_i64-whole) ∙ whole (bits k) (hint k) k.requires.1 (below k) (eqb-true (size k % 2 ^ 1074) 0 (sym (test (goal.at.returns-then-whole-product c).After-truncating_f64_to_i64-whole) ∙ c.if-whole-product.true))

pub returns : goal.returns
unfolding refused
returns c =
    let t = c in
    let k = place (goal.at.returns c).After-truncating_f64_to_i64-whole in
    not_whole (bits k) (hint k) (eqb-false (size k % 2 ^ 1074) 0 (sym (test (goal.at.returns c).After-truncating_f64_to_i64-whole) ∙ c.if-whole-product.false))
