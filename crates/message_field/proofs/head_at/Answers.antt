-- `head_at` answers what the control part at the offset says, where the octets that it announces are there.
use Prim.Native.Nat.{ℕ, ◌+◌, ◌-◌, ◌≤◌}
use native.Mathlib.Omega.{arith}
use mathlib.Core.Path.{◌≡◌, sym, ap, ◌∙◌}
use mathlib.Core.List.{List}
use lib.ListN.{length, take, drop}
use Rattle.octets.specs.Control.{control}
use Rattle.octets.specs.declared.Control.TheVariants.{Whole}
use Rattle.message_field.proofs.Fields.{size_inside}
use Rattle.message_field.proofs.Heads.{span_is, span_none, span_length, head_none, head_absent, head_partial, head_past, head_field}
use Rattle.message_field.proofs.head_at.Goals as goal
use Rattle.message_field.proofs.head_at.Goals.{After-control-part}

-- The control part was read.
module _ (d : After-control-part) where
  abbrev i : ℕ
  i = d.args.i

  abbrev octets : List ℕ
  octets = drop i (take d.args.end d.args.s.now)

  abbrev stop : ℕ
  stop = d.min-stop.result

  before-stop : i ≤ stop
  before-stop = omega arith

  read : d.control-part.result.control ≡ control octets
  read =
      let a = d.args in
      d.control-part.ensures.control_value ∙ ap control (span_is a.s.now i a.end stop d.min-stop.ensures before-stop)

  many : length octets ≡ stop - i
  many =
      let a = d.args in
      span_length a.s.now i a.end stop d.min-stop.ensures before-stop

  size_fits : (tag len size : ℕ) → control octets ≡ Whole tag len size → i + size ≤ stop
  size_fits tag len size e = let h = size_inside octets tag len size e in let l = many in let k = before-stop in omega arith

pub returns-then-stop-i : goal.returns-then-stop-i
returns-then-stop-i c =
    let a = c.args in
    head_none a.i (drop a.i (take a.end a.s.now))
    (span_none a.s.now a.i a.end c.min-stop.result c.min-stop.ensures c.if-stop-i.true)

pub overflow_add-start : goal.overflow_add-start
overflow_add-start c =
    let d = (goal.at.overflow_add-start c).After-control-part in
    let h = size_fits d c.in-Whole.tag c.in-Whole.length c.in-Whole.size (sym (read d) ∙ c.in-Whole.is) in
    let g = c.well_formed in
    omega arith

pub overflow_sub-rest : goal.overflow_sub-rest
overflow_sub-rest c =
    let d = (goal.at.overflow_sub-rest c).After-control-part in
    size_fits d c.in-Whole.tag c.in-Whole.length c.in-Whole.size (sym (read d) ∙ c.in-Whole.is)

pub returns-then-rest-length : goal.returns-then-rest-length
returns-then-rest-length c =
    let d = (goal.at.returns-then-rest-length c).After-control-part in
    let l = many d in
    head_past (i d) (octets d) c.in-Whole.tag c.in-Whole.length c.in-Whole.size (sym (read d) ∙ c.in-Whole.is) (omega arith)

pub overflow_add-result : goal.overflow_add-result
overflow_add-result c =
    let d = (goal.at.overflow_add-result c).After-control-part in
    let h = size_fits d c.in-Whole.tag c.in-Whole.length c.in-Whole.size (sym (read d) ∙ c.in-Whole.is) in
    let g = c.well_formed in
    omega arith

pub returns-in-Absent : goal.returns-in-Absent
returns-in-Absent c =
    let d = (goal.at.returns-in-Absent c).After-control-part in
    head_absent (i d) (octets d) (sym (read d) ∙ c.in-Absent.is)

pub returns-in-Partial : goal.returns-in-Partial
returns-in-Partial c =
    let d = (goal.at.returns-in-Partial c).After-control-part in
    head_partial (i d) (octets d) (sym (read d) ∙ c.in-Partial.is)

pub returns-else-rest-length : goal.returns-else-rest-length
returns-else-rest-length c =
    let d = (goal.at.returns-else-rest-length c).After-control-part in
    let l = many d in
    head_field (i d) (octets d) c.in-Whole.tag c.in-Whole.length c.in-Whole.size (sym (read d) ∙ c.in-Whole.is) (omega arith)
