-- `message_calls::shortest::put_digits` meets its contract.
use native.Mathlib.Omega.{arith}
use mathlib.Core.Path.{◌≡◌}
use Rattle.octets.proofs.Number.{length_octets_of}
use Rattle.message_calls.proofs.FieldStores.{no_digit, one_digit}
use Rattle.message_calls.proofs.shortest.put_digits.Goals as goal
use Rattle.message_calls.proofs.shortest.put_digits.Goals.{Else-w-eq0}

pub returns-then-w-eq0 : goal.returns-then-w-eq0
returns-then-w-eq0 c =
    let a = c.args in
    no_digit a.out.now a.at a.w a.v c.if-w-eq0.true

-- A width below 2 that is not 0.
one : (c : Else-w-eq0) → c.args.w ≡ 1
one c = let a = c.if-w-lt2.true in let b = c.if-w-eq0.false in omega arith

pub bounds-out-at : goal.bounds-out-at
bounds-out-at c =
    let a = c.args in
    let h = c.requires in
    let l = length_octets_of a.w a.v in
    let e = one (goal.at.bounds-out-at c).Else-w-eq0 in
    omega arith

pub returns-then-w-lt2 : goal.returns-then-w-lt2
returns-then-w-lt2 c =
    let a = c.args in
    one_digit a.out.now a.at a.w a.v (one (goal.at.returns-then-w-lt2 c).Else-w-eq0) c.requires

pub overflow_add-result-2 : goal.overflow_add-result-2
overflow_add-result-2 c =
    let s = c in
    let h = s.requires in
    let g = s.well_formed in
    let l = length_octets_of s.args.w s.args.v in
    omega arith

pub returns : goal.returns
returns c =
    let a = c.args in
    record { place = rw (length_octets_of a.w a.v); buffer = c.put_number.ensures }
