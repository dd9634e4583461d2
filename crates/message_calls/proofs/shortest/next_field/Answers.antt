-- `next_field` answers what the control part at the offset says, where the octets that it announces are there.
use Prim.Native.Nat.{ℕ, ◌+◌, ◌≤◌, ◌<◌}
use native.Mathlib.Omega.{arith}
use mathlib.Core.Path.{◌≡◌, refl, sym, ap, ◌∙◌, subst}
use mathlib.Core.List.{List}
use lib.ListN.{length, drop, length-drop, drop_of_length-le}
use Rattle.octets.specs.Control.{control}
use Rattle.octets.specs.declared.Control.{Control}
use Rattle.octets.specs.declared.Control.TheVariants.{Absent, Partial, Whole}
use Rattle.message_field.specs.internal.Heads.{Fieldless, head_at}
use Rattle.octets_read.proofs.Leads.{octets_at}
use Rattle.message_field.proofs.Fields.{size_inside}
use Rattle.message_field.proofs.Heads.{head_none, head_absent, head_partial, head_past, head_field}
use Rattle.message_calls.proofs.shortest.next_field.Goals as goal
use Rattle.message_calls.proofs.shortest.next_field.Goals.{After-control}

-- The control part was read.
module _ (d : After-control) where
  abbrev s : List ℕ
  s = d.args.s.now

  abbrev i : ℕ
  i = d.args.i

  before_end : i < length s
  before_end = d.if-s-i.false

  read : d.control.result ≡ control (drop i s)
  read = d.control.ensures ∙ ap control (octets_at s i before_end)

  size_fits : (tag len size : ℕ) → control (drop i s) ≡ Whole tag len size → i + size ≤ length s
  size_fits tag len size e =
      let h = size_inside (drop i s) tag len size e in
      let l = length-drop i s in
      let k = before_end in
      omega arith

pub returns-then-s-i : goal.returns-then-s-i
unfolding Fieldless
returns-then-s-i c =
    let a = c.args in
    subst Fieldless (head_none a.i (drop a.i a.s.now) (drop_of_length-le a.s.now {i = a.i} c.if-s-i.true)) tt

pub overflow_add-start : goal.overflow_add-start
overflow_add-start c =
    let d = (goal.at.overflow_add-start c).After-control in
    let h = size_fits d c.in-Whole.tag c.in-Whole.length c.in-Whole.size (sym (read d) ∙ c.in-Whole.is) in
    let g = c.well_formed in
    omega arith

pub overflow_sub-remaining : goal.overflow_sub-remaining
overflow_sub-remaining c =
    let d = (goal.at.overflow_sub-remaining c).After-control in
    size_fits d c.in-Whole.tag c.in-Whole.length c.in-Whole.size (sym (read d) ∙ c.in-Whole.is)

pub returns-then-remaining-length : goal.returns-then-remaining-length
unfolding Fieldless
returns-then-remaining-length c =
    let d = (goal.at.returns-then-remaining-length c).After-control in
    let l = length-drop (i d) (s d) in
    subst Fieldless (head_past (i d) (drop (i d) (s d)) c.in-Whole.tag c.in-Whole.length c.in-Whole.size (sym (read d) ∙ c.in-Whole.is) (omega arith)) tt

pub overflow_add-result : goal.overflow_add-result
overflow_add-result c =
    let d = (goal.at.overflow_add-result c).After-control in
    let h = size_fits d c.in-Whole.tag c.in-Whole.length c.in-Whole.size (sym (read d) ∙ c.in-Whole.is) in
    let g = c.well_formed in
    omega arith

-- There is no whole control part.
module _ (i : ℕ) (s : List ℕ) where
  partial : (p : Control) → control s ≡ p → ((tag len size : ℕ) → p ≡ Whole tag len size → ⊥) → Fieldless (head_at i s)
  unfolding Fieldless
  partial Absent e o = subst Fieldless (head_absent i s e) tt
  partial Partial e o = subst Fieldless (head_partial i s e) tt
  partial (Whole tag len size) e o = absurd (o tag len size refl)

pub returns-in_default : goal.returns-in_default
returns-in_default c =
    let d = (goal.at.returns-in_default c).After-control in
    partial (i d) (drop (i d) (s d)) d.control.result (sym (read d)) c.in_default.not-Whole

pub returns : goal.returns
returns c =
    let d = (goal.at.returns c).After-control in
    let l = length-drop (i d) (s d) in
    sym (head_field (i d) (drop (i d) (s d)) c.in-Whole.tag c.in-Whole.length c.in-Whole.size (sym (read d) ∙ c.in-Whole.is) (omega arith))
