-- `by_any_code` goes by the code.
use Prim.Native.Nat.{ℕ, ◌-◌, ◌≤◌, ◌<◌}
use native.Mathlib.Omega.{arith}
use mathlib.Core.Path.{◌≡◌, refl, sym, ap, ◌∙◌}
use mathlib.Core.Bool.{Bool, ◌&&◌}
use mathlib.Core.List.{List}
use mathlib.Core.Logic.{◌⊎◌, inl, inr, ⊎_elim}
use lib.ListN.{length, take, drop}
use Rattle.octets.proofs.Bools.{first_decides, second_decides, true_second}
use Rattle.table_index.specs.internal.Cells.{meaning_of}
use Rattle.message.specs.internal.Short.{short_contents}
use Rattle.message.specs.Reading.{step_by_kind}
use Rattle.message_field.specs.internal.Nexts.{next_at, next_by_kind, short_number}
use Rattle.message_field.specs.internal.Nexts.{Next}
use Rattle.message_field.specs.internal.Nexts.{Over, Into}
use Rattle.message_field.proofs.Nexts.{number_contents, deep_plain, deep_message, deep_never, deep_refused, by_kind, short_message, short_text, short_no_number, message_at, plain_at, wide_at, text_at, no_text_at}
use Rattle.message_field.proofs.by_any_code.Goals as goal
use Rattle.message_field.proofs.by_any_code.Goals.{Joined-then-code-eq1, Start, then-code-eq1-via-then-code-eq1, then-code-eq1-via-else-code-eq1+then-code-eq2}

below-four : {code : ℕ} → code ≤ 4 → (code ≡ 4 → ⊥) → code < 4
below-four h d = omega (arith, d)

-- The arguments, and whether the control part and the contents are in their shortest form.
module _ (c : Start) where
  abbrev contents : List ℕ
  contents = take (c.args.e - c.args.a) (drop c.args.a c.args.s.now)

  abbrev short : Bool
  short = c.args.short && short_contents (meaning_of c.args.code) contents

  abbrev span : (c.args.a ≤ c.args.e) × (c.args.e ≤ length c.args.s.now)
  span = c.requires

  -- A field that is no message is not too deep.
  plain : c.args.code ≤ 4 → {r : Next}
      → r ≡ next_at c.args.a short c.args.seen (step_by_kind (meaning_of c.args.code) 0 contents)
      → r ≡ next_by_kind c.args.nested (meaning_of c.args.code) c.args.a short c.args.seen contents
  plain h e = by_kind c.args.nested (meaning_of c.args.code) c.args.a short c.args.seen contents (deep_plain c.args.nested c.args.code h) e

pub returns-then-nested-eq0 : goal.returns-then-nested-eq0
returns-then-nested-eq0 c =
    let b = c in
    let a = b.args in
    let z : a.nested ≡ 0 = c.if-nested-eq0.true in
    deep_refused a.nested (meaning_of a.code) a.a (short (goal.at.returns-then-nested-eq0 c).Start) a.seen (contents (goal.at.returns-then-nested-eq0 c).Start) (rw z (deep_message a.code c.if-code-gt4.true))

pub returns-then-code-gt4 : goal.returns-then-code-gt4
returns-then-code-gt4 c =
    let b = c in
    let a = b.args in
    let k = c.if-code-gt4.true in
    let z : a.nested ≡ 0 → ⊥ = c.if-nested-eq0.false in
    by_kind a.nested (meaning_of a.code) a.a (short (goal.at.returns-then-code-gt4 c).Start) a.seen (contents (goal.at.returns-then-code-gt4 c).Start) (deep_never a.nested (meaning_of a.code) (omega (arith, z)))
    (ap (λ (t : Bool). Into (a.code - 5) a.a a.e t a.seen) (true_second a.short _ (short_message a.code (contents (goal.at.returns-then-code-gt4 c).Start) k))
    ∙ message_at a.code a.s.now a.a a.e b.requires (short (goal.at.returns-then-code-gt4 c).Start) a.seen k)

pub returns-then-text : goal.returns-then-text
returns-then-text c =
    let b = c in
    let a = b.args in
    let k = c.if-code-eq4.true in
    plain (goal.at.returns-then-text c).Start (omega arith)
    (ap (λ (t : Bool). Over a.e t a.seen) (true_second a.short _ (short_text a.code (contents (goal.at.returns-then-text c).Start) k))
    ∙ text_at a.code a.s.now a.a a.e b.requires (short (goal.at.returns-then-text c).Start) a.seen k (sym c.text.ensures ∙ c.if-text.true))

pub returns-then-code-eq4 : goal.returns-then-code-eq4
returns-then-code-eq4 c =
    let b = c in
    let a = b.args in
    let k = c.if-code-eq4.true in
    plain (goal.at.returns-then-code-eq4 c).Start (omega arith) (no_text_at a.code a.s.now a.a a.e b.requires (short (goal.at.returns-then-code-eq4 c).Start) a.seen k (sym c.text.ensures ∙ c.if-text.false))

-- The code of a number.
number : (c : Joined-then-code-eq1) → let a = c.args in (a.code ≡ 1) ⊎ (a.code ≡ 2)
number c = elim c.then-code-eq1.branch [ then-code-eq1-via-then-code-eq1 w ↦ inl (omega arith) | then-code-eq1-via-else-code-eq1+then-code-eq2 w ↦ inr (omega arith) ]

pub returns-then-e-a-gt8 : goal.returns-then-e-a-gt8
returns-then-e-a-gt8 c =
    let b = c in
    let a = b.args in
    plain (goal.at.returns-then-e-a-gt8 c).Start (⊎_elim {C = a.code ≤ 4} (λ k. omega arith) (λ k. omega arith) (number (goal.at.returns-then-e-a-gt8 c).Joined-then-code-eq1))
    (wide_at a.code a.s.now a.a a.e b.requires (short (goal.at.returns-then-e-a-gt8 c).Start) a.seen c.if-e-a-gt8.true (number (goal.at.returns-then-e-a-gt8 c).Joined-then-code-eq1))

-- A number of at most eight octets.
module _ (c : Start) (kind : (c.args.code ≡ 1) ⊎ (c.args.code ≡ 2)) (few : c.args.e - c.args.a ≤ 8) where
  narrow : (t : Bool) → t ≡ short c
      → Over c.args.e t c.args.seen
      ≡ next_by_kind c.args.nested (meaning_of c.args.code) c.args.a (short c) c.args.seen (contents c)
  narrow t e =
      let a = c.args in
      let h = ⊎_elim {C = a.code < 4} (λ k. omega arith) (λ k. omega arith) kind in
      plain c (omega arith)
      (ap (λ (x : Bool). Over a.e x a.seen) e
      ∙ plain_at a.code a.s.now a.a a.e c.requires (short c) a.seen h (λ w k. omega arith) (λ w k. omega arith))

  -- What `shortest_number` ensures, of the contents of the field.
  contents_short : short_number c.args.code (contents c) ≡ short_contents (meaning_of c.args.code) (contents c)
  contents_short =
      let code = c.args.code in
      let bounds = ⊎_elim {C = (1 ≤ code) × (code ≤ 2)} (λ e. (omega arith, omega arith)) (λ e. (omega arith, omega arith)) kind in
      number_contents code (contents c) bounds.0 bounds.1

pub returns-then-short : goal.returns-then-short
returns-then-short c =
    let b = (goal.at.returns-then-short c).Start in
    let kind = number (goal.at.returns-then-short c).Joined-then-code-eq1 in
    let few = c.if-e-a-gt8.false in
    narrow b kind few c.shortest_number.result
    (c.shortest_number.ensures ∙ contents_short b kind few ∙ second_decides b.args.short _ _ c.if-short.true refl)

pub returns-else-short : goal.returns-else-short
returns-else-short c =
    let b = (goal.at.returns-else-short c).Start in
    let kind = number (goal.at.returns-else-short c).Joined-then-code-eq1 in
    narrow b kind c.if-e-a-gt8.false b.args.short (first_decides b.args.short _ _ c.if-short.false refl)

pub returns : goal.returns
returns c =
    let b = c in
    let a = b.args in
    let h = below-four c.if-code-gt4.false c.if-code-eq4.false in
    let x = c.if-code-eq1.false in
    let y = c.if-code-eq2.false in
    plain (goal.at.returns c).Start (omega arith)
    (ap (λ (t : Bool). Over a.e t a.seen) (true_second a.short _ (short_no_number a.code (contents (goal.at.returns c).Start) h x y))
    ∙ plain_at a.code a.s.now a.a a.e b.requires (short (goal.at.returns c).Start) a.seen h (λ w. x) (λ w. y))
