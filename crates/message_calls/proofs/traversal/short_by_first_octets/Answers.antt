-- `short_by_first_octets` passes contents that are allowed and in their shortest form.
use Prim.Native.Nat.{ℕ, ◌+◌, ◌-◌, ◌≤◌, ◌<◌}
use native.Mathlib.Omega.{arith}
use mathlib.Core.Path.{◌≡◌}
use mathlib.Core.Bool.{true≢false, false≢true}
use lib.ListN.{length, get_or}
use borrow.Author.Tests.{eqb-false, ltb-true, leb-true, not-true}
use Rattle.octets.proofs.Number.{octets_of_slice}
use Rattle.message_calls.proofs.FirstOctets.{no_number_passes, none_passes, uint_passes, int_passes}
use Rattle.message_calls.proofs.traversal.short_by_first_octets.Goals as goal
use Rattle.message_calls.proofs.traversal.short_by_first_octets.Goals.{then-code-eq0-via-then-code-eq0, then-code-eq0-via-else-code-eq0+then-code-eq3, then-code-eq0-via-else-code-eq0+else-code-eq3+then-n-eq0}
use Rattle.message_calls.proofs.traversal.short_by_first_octets.Goals.{Else-n-gt8}

only_two : {code : ℕ} → code < 4 → (code ≡ 0 → ⊥) → (code ≡ 1 → ⊥) → (code ≡ 3 → ⊥) → code ≡ 2
only_two h x y z = omega (arith, x, y, z)

a-number : {code : ℕ} → code < 4 → (code ≡ 0 → ⊥) → (code ≡ 3 → ⊥) → (1 ≤ code) × (code ≤ 2)
a-number h x y = (omega (arith, x), omega (arith, y))

pub returns-then-code-eq0 : goal.returns-then-code-eq0
returns-then-code-eq0 c =
    let b = c in
    let a = b.args in
    let h : (a.a ≤ a.e) × (a.e ≤ length a.s.now) = (b.requires.1, b.requires.2) in record {
      passes = λ e. elim c.then-code-eq0.branch [
        | then-code-eq0-via-then-code-eq0 w ↦ let z = w.if-code-eq0.true in no_number_passes a.code a.s.now a.a a.e h b.requires.0 (λ x. omega arith) (λ x. omega arith)
        | then-code-eq0-via-else-code-eq0+then-code-eq3 w ↦ let z = w.if-code-eq3.true in no_number_passes a.code a.s.now a.a a.e h b.requires.0 (λ x. omega arith) (λ x. omega arith)
        | then-code-eq0-via-else-code-eq0+else-code-eq3+then-n-eq0 w ↦ none_passes a.code a.s.now a.a a.e h b.requires.0 w.if-n-eq0.true
      ];
      le_code = λ e. absurd (true≢false e);
    }

pub returns-then-n-gt8 : goal.returns-then-n-gt8
returns-then-n-gt8 c =
    let d = c in record { passes = λ e. absurd (false≢true e); le_code = λ e. a-number d.requires.0 d.if-code-eq0.false (d.if-code-eq3.false) }

-- A number of one to eight octets.
module _ (c : Else-n-gt8) where
  some : 0 < c.args.e - c.args.a
  some = let z = c.if-n-eq0.false in omega (arith, z)

pub bounds-s-a : goal.bounds-s-a
bounds-s-a c = let d = c in let h = some (goal.at.bounds-s-a c).Else-n-gt8 in let b = d in let p = b.requires.1 in let q = b.requires.2 in omega arith

pub returns-then-code-eq1 : goal.returns-then-code-eq1
returns-then-code-eq1 c =
    let d = c in
    let b = d in
    let a = b.args in
    let s = a.s.now in
    let o = octets_of_slice s (λ i. (c.type_inv.s i).fits) in
    let one = c.if-code-eq1.true in record {
      passes = λ e.
          let z = eqb-false (get_or s a.a 0) 0 (not-true _ e) in
          uint_passes a.code s a.a a.e (b.requires.1, b.requires.2) b.requires.0 o (some (goal.at.returns-then-code-eq1 c).Else-n-gt8) d.if-n-gt8.false one (omega (arith, z));
      le_code = λ e. (omega arith, omega arith);
    }

pub returns-then-n-ge2 : goal.returns-then-n-ge2
returns-then-n-ge2 c =
    let d = c in
    let b = d in
    let a = b.args in
    let s = a.s.now in
    let o = octets_of_slice s (λ i. (c.type_inv.s i).fits) in
    let two =
    only_two b.requires.0 d.if-code-eq0.false c.if-code-eq1.false (d.if-code-eq3.false) in record {
      passes = λ e. int_passes a.code s a.a a.e (b.requires.1, b.requires.2) b.requires.0 o (some (goal.at.returns-then-n-ge2 c).Else-n-gt8) d.if-n-gt8.false two c.if-n-ge2.true
          (ltb-true 128 (get_or s (a.a + 1) 0) e);
      le_code = λ e. (omega arith, omega arith);
    }

pub returns-else-n-ge2 : goal.returns-else-n-ge2
returns-else-n-ge2 c =
    let d = c in
    let b = d in
    let a = b.args in
    let k = c.if-n-ge2.false in
    let two = only_two b.requires.0 d.if-code-eq0.false c.if-code-eq1.false (d.if-code-eq3.false) in record { passes = λ e. let h = leb-true 2 (a.e - a.a) e in absurd (omega arith); le_code = λ e. (omega arith, omega arith) }
