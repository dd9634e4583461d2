-- `quick` answers the end of a field that passes.
use Prim.Native.Nat.{ℕ, ◌+◌, ◌-◌, ◌≤◌, ◌<◌}
use native.Mathlib.Omega.{arith}
use mathlib.Core.Path.{◌≡◌, refl, sym, ◌∙◌, subst}
use lib.Bits.{bit_and, mask_lt}
use lib.ListN.{length, get_or}
use Rattle.octets.proofs.Number.{octets_of_slice}
use Rattle.message_field.specs.internal.Nexts.{NoText}
use Rattle.message_field.proofs.Nexts.{small_inside, text_passes}
use Rattle.message_calls.proofs.FirstOctets.{none_passes, first_passes}
use Rattle.message_calls.proofs.traversal.quick.Goals as goal
use Rattle.message_calls.proofs.traversal.quick.Goals.{then-n-eq0, else-n-eq0}
use Rattle.message_calls.proofs.traversal.quick.Goals.{Else-code-ge4, Start, Then-code-eq4}

-- The field lies within the octets.
inside : (b : Start) → let a = b.args in
    (a.i < length a.s.now) × (a.i + 1 + bit_and (get_or a.s.now a.i 0) 15 ≤ length a.s.now)
inside b = let a = b.args in small_inside a.s.now a.i b.requires

-- A text.
module _ (c : Then-code-eq4) where
  text-inside : let a = c.args in
      (a.i < length a.s.now) × (a.i + 1 + bit_and (get_or a.s.now a.i 0) 15 ≤ length a.s.now)
  text-inside = inside c.before.before.before.before

pub overflow_add-a : goal.overflow_add-a
overflow_add-a c = let h = (text-inside (goal.at.overflow_add-a c).Then-code-eq4).1 in omega arith

pub bounds-s-i : goal.bounds-s-i
bounds-s-i c = (text-inside (goal.at.bounds-s-i c).Then-code-eq4).0

pub overflow_cast-e : goal.overflow_cast-e
overflow_cast-e c = let a = c.args in let h = mask_lt (get_or a.s.now a.i 0) 4 in omega arith

pub overflow_add-e : goal.overflow_add-e
overflow_add-e c = let h = (text-inside (goal.at.overflow_add-e c).Then-code-eq4).1 in omega arith

pub slice_bounds-text-end : goal.slice_bounds-text-end
slice_bounds-text-end c = let h = (text-inside (goal.at.slice_bounds-text-end c).Then-code-eq4).1 in omega arith

pub returns-then-text : goal.returns-then-text
returns-then-text c =
    let d = c in
    let a = d.args in
    let k = d.if-code-eq4.true in (omega arith, refl, text_passes a.code a.s.now (a.i + 1) _ (omega arith, (text-inside (goal.at.returns-then-text c).Then-code-eq4).1) k (sym c.text.ensures ∙ c.if-text.true))

pub returns-else-text : goal.returns-else-text
unfolding NoText
returns-else-text c =
    let k = c.if-code-eq4.true in (λ e. sym c.text.ensures ∙ c.if-text.false, λ l. absurd (omega arith))

pub returns-else-code-eq4 : goal.returns-else-code-eq4
unfolding NoText
returns-else-code-eq4 c =
    let k = c.if-code-ge4.true in (λ e. absurd (c.if-code-eq4.false e), λ l. absurd (omega arith))

-- A field that is neither text nor a message.
module _ (c : Else-code-ge4) where
  start_inside : let a = c.args in
      (a.i < length a.s.now) × (a.i + 1 + bit_and (get_or a.s.now a.i 0) 15 ≤ length a.s.now)
  start_inside = inside c.before.before.before

pub bounds-s-i-2 : goal.bounds-s-i-2
bounds-s-i-2 c = (start_inside (goal.at.bounds-s-i-2 c).Else-code-ge4).0

pub overflow_cast-n : goal.overflow_cast-n
overflow_cast-n c = let a = c.args in let h = mask_lt (get_or a.s.now a.i 0) 4 in omega arith

pub overflow_add-a-2 : goal.overflow_add-a-2
overflow_add-a-2 c = let h = (start_inside (goal.at.overflow_add-a-2 c).Else-code-ge4).1 in omega arith

pub overflow_add-e-2 : goal.overflow_add-e-2
overflow_add-e-2 c = let h = (start_inside (goal.at.overflow_add-e-2 c).Else-code-ge4).1 in omega arith

pub bounds-s-first : goal.bounds-s-first
bounds-s-first c =
    let j = c in
    let d = j in
    let a = d.args in
    let n = bit_and (get_or a.s.now a.i 0) 15 in
    elim c.if-n-eq0.branch [
      | then-n-eq0 w ↦ let e = w.first-is in let h = (start_inside (goal.at.bounds-s-first c).Else-code-ge4).0 in omega arith
      | else-n-eq0 w ↦
          let e = w.first-is in
          let h = (start_inside (goal.at.bounds-s-first c).Else-code-ge4).1 in
          let z : n ≡ 0 → ⊥ = w.if-n-eq0.false in
          omega (arith, z)
    ]

pub returns-then-s-first-ne0 : goal.returns-then-s-first-ne0
returns-then-s-first-ne0 c =
    let j = c in
    let d = j in
    let a = d.args in
    let s = a.s.now in
    let n = bit_and (get_or s a.i 0) 15 in
    let e = a.i + 1 + n in
    let four = d.if-code-ge4.false in
    let z : e - (a.i + 1) ≡ n = omega arith in
    let few : n ≤ 8 = c.if-n-le8.true in
    let inside = start_inside (goal.at.returns-then-s-first-ne0 c).Else-code-ge4 in
    let o = octets_of_slice s (λ k. (c.type_inv.s k).fits) in (
      omega arith,
      refl,
      elim c.if-n-eq0.branch [
        | then-n-eq0 w ↦ none_passes a.code s (a.i + 1) e (omega arith, inside.1) four (let y : n ≡ 0 = w.if-n-eq0.true in omega arith)
        | else-n-eq0 w ↦
            first_passes a.code s (a.i + 1) e (omega arith, inside.1) four o (let y : n ≡ 0 → ⊥ = w.if-n-eq0.false in omega (arith, y)) (omega arith)
            (subst (λ (q : ℕ). bit_and (get_or s q 0) 127 ≡ 0 → ⊥) w.first-is c.if-s-first-ne0.true)
      ],
    )

pub short_by_first_octets-requires : goal.short_by_first_octets-requires
short_by_first_octets-requires c = let d = c in (d.if-code-ge4.false, omega arith, (start_inside (goal.at.short_by_first_octets-requires c).Else-code-ge4).1)

pub returns-then-short_by_first_octets : goal.returns-then-short_by_first_octets
returns-then-short_by_first_octets c =
    let k = c.if-code-ge4.false in (omega arith, refl, c.short_by_first_octets.ensures.passes c.if-short_by_first_octets.true)

pub returns : goal.returns
unfolding NoText
returns c =
    let k = c.if-code-ge4.false in (λ e. absurd (omega arith), λ l. c.short_by_first_octets.ensures.le_code c.if-short_by_first_octets.false)
