-- `next` goes by the code of the field's kind.
use Prim.Native.Nat.{◌+◌, ◌-◌, ◌≤◌, ◌<◌}
use native.Mathlib.Omega.{arith}
use mathlib.Core.Path.{◌≡◌, ◌∙◌}
use mathlib.Core.Logic.{◌⊎◌, inl, inr, ⊎_elim}
use lib.Bits.{bit_and, mask_lt}
use lib.ListN.{length, get_or}
use Rattle.octets.proofs.Text.{up_to}
use Rattle.message_field.proofs.Nexts.{number_contents, small_inside, small_no_text, small_wide, small_number, small_deep, small_message}
use Rattle.message_calls.proofs.traversal.next.Goals as goal
use Rattle.message_calls.proofs.traversal.next.Goals.{Start, Then-code-lt4}

inside : (b : Start) → let a = b.args in (a.i < length a.s.now) × (a.i + 1 + bit_and (get_or a.s.now a.i 0) 15 ≤ length a.s.now)
inside b = small_inside b.args.s.now b.args.i b.requires.small

pub overflow_add-a : goal.overflow_add-a
overflow_add-a c = let h = (inside (goal.at.overflow_add-a c).Start).1 in omega arith

pub bounds-s-i : goal.bounds-s-i
bounds-s-i c = (inside (goal.at.bounds-s-i c).Start).0

pub overflow_cast-e : goal.overflow_cast-e
overflow_cast-e c = let a = c.args in let h = mask_lt (get_or a.s.now a.i 0) 4 in omega arith

pub overflow_add-e : goal.overflow_add-e
overflow_add-e c = let h = (inside (goal.at.overflow_add-e c).Start).1 in omega arith

pub returns-then-code-eq4 : goal.returns-then-code-eq4
returns-then-code-eq4 c =
    let a = c.args in
    small_no_text a.s.now a.i c.requires.small a.nested a.code a.seen c.if-code-eq4.true c.requires.no_text.0

-- The code of a number.
number : (c : Then-code-lt4) → (c.args.code ≡ 1) ⊎ (c.args.code ≡ 2)
number c =
    let l = c.if-code-lt4.true in
    let h = c.requires.no_text.1 (omega arith) in
    let p = h.0 in
    let q = h.1 in
    up_to c.args.code 1 (λ z. inl (omega arith)) (λ z. inr (omega arith))

pub returns-then-e-a-gt8 : goal.returns-then-e-a-gt8
returns-then-e-a-gt8 c =
    let a = c.args in
    small_wide a.s.now a.i c.requires.small a.nested a.code a.seen c.if-e-a-gt8.true (number (goal.at.returns-then-e-a-gt8 c).Then-code-lt4)

pub slice_bounds-shortest_number-end : goal.slice_bounds-shortest_number-end
slice_bounds-shortest_number-end c = let h = (inside (goal.at.slice_bounds-shortest_number-end c).Start).1 in omega arith

pub returns-then-code-lt4 : goal.returns-then-code-lt4
returns-then-code-lt4 c =
    let a = c.args in
    let s = a.s.now in
    let l = c.if-code-lt4.true in
    let few : a.i + 1 + bit_and (get_or s a.i 0) 15 - (a.i + 1) ≤ 8 = c.if-e-a-gt8.false in
    let x = number (goal.at.returns-then-code-lt4 c).Then-code-lt4 in
    let premises = ⊎_elim {C = (1 ≤ a.code) × (a.code ≤ 2)} (λ y. (omega arith, omega arith)) (λ y. (omega arith, omega arith)) x in
    let p = premises.0 in
    let q = premises.1 in
    small_number s a.i c.requires.small a.nested a.code a.seen few l c.shortest_number.result
    (c.shortest_number.ensures ∙ number_contents a.code _ p q)

pub returns-then-nested-eq0 : goal.returns-then-nested-eq0
returns-then-nested-eq0 c =
    let a = c.args in
    let four = c.if-code-eq4.false in
    let l = c.if-code-lt4.false in
    small_deep a.s.now a.i c.requires.small a.nested a.code a.seen c.if-nested-eq0.true (omega (arith, four))

pub returns : goal.returns
returns c =
    let a = c.args in
    let four = c.if-code-eq4.false in
    let l = c.if-code-lt4.false in
    let some = c.if-nested-eq0.false in
    small_message a.s.now a.i c.requires.small a.nested a.code a.seen (omega (arith, some)) (omega (arith, four))
