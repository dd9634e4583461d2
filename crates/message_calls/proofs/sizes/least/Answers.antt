-- `least` gives the shortest form of a uint and of an int. Any other contents are their own.
use Prim.Native.Nat.{ℕ, ◌≤◌}
use native.Mathlib.Omega.{arith}
use mathlib.Core.Path.{◌≡◌, sym, ap, ◌∙◌, subst}
use mathlib.Core.List.{List}
use lib.ListN.{length}
use mir.Syntax.{w64}
use mir.ValLaws.{to_z-of_z}
use Rattle.octets.specs.internal.Least.{int_width_bits}
use Rattle.table.specs.declared.Meaning.{Meaning}
use Rattle.table_index.specs.internal.Cells.{meaning_of}
use Rattle.table_index.proofs.Meanings as means
use Rattle.message.specs.Cut.{Contents}
use Rattle.message.specs.Tree.{value}
use Rattle.message.specs.Shortest.{least_contents}
use Rattle.message_calls.proofs.Codes.{octets_code}
use Rattle.message_calls.proofs.FieldStores.{uint_contents, int_contents}
use Rattle.message_calls.proofs.sizes.least.Goals as goal

module _ (code : ℕ) (s : List ℕ) (h : Contents (meaning_of code) s) where
  few_uint : code ≡ 1 → length s ≤ 8
  unfolding Contents
  few_uint e = subst (λ (k : Meaning). Contents k s) (sym (means.uint code e)) h

  few_int : code ≡ 2 → length s ≤ 8
  unfolding Contents
  few_int e = subst (λ (k : Meaning). Contents k s) (sym (means.int code e)) h

pub returns-then-s-gt8 : goal.returns-then-s-gt8
returns-then-s-gt8 c =
    let a = c.args in
    let many = c.if-s-gt8.true in
    octets_code a.code a.s.now (λ e. let few = few_uint a.code a.s.now c.requires e in absurd (omega arith))
    (λ e. let few = few_int a.code a.s.now c.requires e in absurd (omega arith))

pub returns-then-code-eq1 : goal.returns-then-code-eq1
unfolding least_contents value
returns-then-code-eq1 c =
    let a = c.args in
    let e = c.if-code-eq1.true in
    let o = uint_contents a.s.now c.uint.result.value c.uint_least.result c.uint.ensures.value_value (few_uint a.code a.s.now c.requires e) c.uint_least.ensures in
    rw (← means.uint a.code e) (sym o)

pub returns-then-code-eq2 : goal.returns-then-code-eq2
unfolding least_contents value
returns-then-code-eq2 c =
    let a = c.args in
    let e = c.if-code-eq2.true in
    let f = c.int in
    let z = to_z-of_z w64 f.result.value (record { sfits = c.struct_told-1.given.0.1 }) in
    let o = int_contents a.s.now f.result.value c.int_least.result f.ensures.value_value (few_int a.code a.s.now c.requires e) (c.int_least.ensures ∙ ap int_width_bits z) in
    rw (← means.int a.code e) (sym o)

pub returns : goal.returns
returns c = octets_code c.args.code c.args.s.now c.if-code-eq1.false c.if-code-eq2.false
