-- `tib_decimals::large` meets its contract.
use Prim.Native.Nat.{ℕ, ◌+◌, ◌*◌, ◌^◌}
use native.Mathlib.Omega.{arith}
use mathlib.Core.Path.{◌∙◌}
use Rattle.tib_decimals.specs.Nearest.{nearest}
use Rattle.tib_decimals.proofs.Shifts.{half_bounds}
use Rattle.tib_decimals.proofs.Capped.{not_capped, is_capped}
use Rattle.tib_decimals.proofs.TwoParts.{above_limit, whole_below, quotient_below, last_below, within_limit_lem}
use Rattle.tib_decimals.proofs.large.Goals as goal
use Rattle.tib_decimals.proofs.large.Goals.{Start}

abbrev result : Start → ℕ
result s = nearest (s.args.high * 2 ^ 32 + s.args.low) (2 ^ s.args.t)

pub returns-then-t-high : goal.returns-then-t-high
returns-then-t-high c =
    let s = c in
    is_capped (result (goal.at.returns-then-t-high c).Start) (above_limit s.args.high s.args.low s.args.t s.requires.0 s.requires.1 s.requires.2 s.requires.3 (omega arith))

pub overflow_add-odd : goal.overflow_add-odd
overflow_add-odd c =
    let s = c in
    let w = whole_below s.args.high s.args.low s.args.t s.requires.0 s.requires.1 s.requires.2 s.requires.3 (omega arith) in
    let q = quotient_below s.args.high s.args.low s.args.t s.requires.0 s.requires.1 s.requires.2 s.requires.3 in
    record { fits = omega arith }

pub overflow_sub-size-2 : goal.overflow_sub-size-2
overflow_sub-size-2 c = (half_bounds c.args.t (omega arith)).0

pub overflow_add-size : goal.overflow_add-size
overflow_add-size c = let h = half_bounds c.args.t (omega arith) in record { fits = omega arith }

pub overflow_add-size-2 : goal.overflow_add-size-2
overflow_add-size-2 c =
    let s = c in
    let h = half_bounds s.args.t (omega arith) in
    let l = last_below s.args.high s.args.low s.args.t s.requires.0 s.requires.1 s.requires.2 s.requires.3 in
    record { fits = omega arith }

pub overflow_add-size-3 : goal.overflow_add-size-3
overflow_add-size-3 c =
    let s = c in
    let k = within_limit_lem s.args.high s.args.low s.args.t s.requires.0 s.requires.1 s.requires.2 s.requires.3 (omega arith) in
    record { fits = omega arith }

pub returns-then-size-gt-LARGEST : goal.returns-then-size-gt-LARGEST
returns-then-size-gt-LARGEST c =
    let s = c in
    let k = within_limit_lem s.args.high s.args.low s.args.t s.requires.0 s.requires.1 s.requires.2 s.requires.3 (omega arith) in
    is_capped (result (goal.at.returns-then-size-gt-LARGEST c).Start) (omega arith)

pub returns-else-size-gt-LARGEST : goal.returns-else-size-gt-LARGEST
returns-else-size-gt-LARGEST c =
    let s = c in
    let k = within_limit_lem s.args.high s.args.low s.args.t s.requires.0 s.requires.1 s.requires.2 s.requires.3 (omega arith) in
    k.0 ∙ not_capped (result (goal.at.returns-else-size-gt-LARGEST c).Start) (omega arith)
