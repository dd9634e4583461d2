-- `step` reads the control part, tests the length, notes the tag, and goes by the kind.
use Prim.Native.Nat.{ℕ, ◌+◌, ◌≤◌}
use mathlib.Core.List.{List}
use lib.ListN.{length, drop}
use native.Mathlib.Omega.{arith}
use mathlib.Core.Path.{◌≡◌, sym, ap, ◌∙◌}
use mathlib.Core.Bool.{cond}
use Rattle.table_index.specs.internal.Cells.{cell_for, code_in, meaning_in, indexed, noted_in}
use Rattle.reading.specs.Refusals as refusals
use Rattle.octets.specs.Control.{control}
use Rattle.octets.specs.declared.Control.TheVariants.{Whole}
use Rattle.message.specs.Single.{repeats}
use Rattle.message.specs.Reading.{too_deep}
use Rattle.message_field.specs.internal.Nexts.{noted_tags, noted_of}
use Rattle.message_field.specs.internal.Nexts.{Fault}
use Rattle.message_field.proofs.Nexts.{done_at, partial_at, start_inside, past_at, repeated_at, field_at}
use Rattle.message_field.proofs.Notes.{noted_tags_lem, repeats_noted, noted_repeats, noted_mask}
use Rattle.message_field.proofs.step.Goals as goal
use Rattle.message_field.proofs.step.Goals.{After-note, In-Whole}

-- The control part that was found ends within the octets.
inside : (c : In-Whole) → let a = c.args in a.i + c.in-Whole.size ≤ length a.s.now
inside c =
    let a = c.args in
    start_inside a.s.now a.i c.in-Whole.tag c.in-Whole.length c.in-Whole.size (sym c.control_at-read.ensures.control_value ∙ c.in-Whole.is)

pub overflow_add-start : goal.overflow_add-start
overflow_add-start c = omega (arith, inside (goal.at.overflow_add-start c).In-Whole)

pub overflow_sub-remaining : goal.overflow_sub-remaining
overflow_sub-remaining c = inside (goal.at.overflow_sub-remaining c).In-Whole

pub returns-then-remaining-length : goal.returns-then-remaining-length
returns-then-remaining-length c =
    let b = c in
    let a = b.args in
    past_at a.s.now a.i c.in-Whole.tag c.in-Whole.length c.in-Whole.size (sym c.control_at-read.ensures.control_value ∙ c.in-Whole.is)
    a.cells.now a.nested a.number (noted_tags c.args.cells.now c.args.number c.args.seen) a.seen c.if-remaining-length.true

pub overflow_add-end : goal.overflow_add-end
overflow_add-end c = let h = inside (goal.at.overflow_add-end c).In-Whole in let k = c.if-remaining-length.false in omega arith

-- The control part, the cell of its tag, and what noting the tag gives.
module _ (c : After-note) where
  abbrev cells : List ℕ
  cells = c.args.cells.now

  abbrev tag : ℕ
  tag = c.in-Whole.tag

  abbrev len : ℕ
  len = c.in-Whole.length

  abbrev size : ℕ
  size = c.in-Whole.size

  abbrev cell : ℕ
  cell = cell_for cells c.args.number tag

  control_is : control (drop c.args.i c.args.s.now) ≡ Whole tag len size
  control_is = sym c.control_at-read.ensures.control_value ∙ c.in-Whole.is

  noted_is : c.note.result ≡ noted_of c.args.seen cell
  noted_is = c.note.ensures ∙ ap (noted_of c.args.seen) c.cell-cell.ensures

  -- Whether the field repeats one, by the tags that the mask notes.
  repeats-is : repeats (indexed cells) c.args.number (noted_tags cells c.args.number c.args.seen) tag ≡ noted_in c.args.seen cell
  repeats-is =
      let n = c.args.number in
      let seen = c.args.seen in
      repeats_noted cells n (noted_tags cells n seen) seen (noted_tags_lem cells n seen) tag

pub returns-in_default : goal.returns-in_default
unfolding indexed
returns-in_default c =
    let n = (goal.at.returns-in_default c).After-note in
    let a = c.args in
    let k = c.cell-cell.ensures in
    let again = noted_repeats a.seen (cell n) (sym c.in_default.is ∙ noted_is n) in
    ap Fault (c.repeat_fault.ensures ∙ ap (λ (x : ℕ). cond (too_deep a.nested (meaning_in x)) refusals.too_deep refusals.repeated) k)
    ∙ repeated_at a.s.now a.i (tag n) (len n) (size n) (control_is n) (cells n) a.nested a.number (noted_tags c.args.cells.now c.args.number c.args.seen) a.seen c.if-remaining-length.false
    (repeats-is n ∙ again)

pub by_code-requires : goal.by_code-requires
by_code-requires c =
    let h = inside (goal.at.by_code-requires c).In-Whole in let k = c.if-remaining-length.false in (omega arith, omega arith)

pub returns-in-Absent : goal.returns-in-Absent
returns-in-Absent c =
    let a = c.args in
    done_at a.cells.now a.nested a.number (noted_tags a.cells.now a.number a.seen) a.seen a.s.now a.i (sym c.control_at-read.ensures.control_value ∙ c.in-Absent.is)

pub returns-in-Partial : goal.returns-in-Partial
returns-in-Partial c =
    let a = c.args in
    partial_at a.cells.now a.nested a.number (noted_tags a.cells.now a.number a.seen) a.seen a.s.now a.i (sym c.control_at-read.ensures.control_value ∙ c.in-Partial.is)

pub returns-in-Some : goal.returns-in-Some
unfolding indexed meaning_in
returns-in-Some c =
    let n = (goal.at.returns-in-Some c).After-note in
    let a = c.args in
    let m = noted_mask a.seen (cell n) c.in-Some.after (sym c.in-Some.is ∙ noted_is n) in
    let k = c.code.ensures ∙ ap code_in c.cell-cell.ensures in
    let w = c.control_at-read in
    c.by_code.ensures ∙ rw (k, m.1)
    (field_at a.s.now a.i (tag n) (len n) (size n) (control_is n) (cells n) a.nested a.number (noted_tags c.args.cells.now c.args.number c.args.seen) a.seen c.if-remaining-length.false
    (repeats-is n ∙ m.0) w.result.shortest w.ensures.shortest_value)
