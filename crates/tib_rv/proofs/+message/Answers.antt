-- `tib_rv::message` meets its contract.
use Prim.Native.Nat.{ℕ, suc, ◌+◌, ◌-◌, ◌≤◌, ◌<◌, max}
use native.Mathlib.Omega.{arith}
use mathlib.Core.Path.{◌≡◌, refl, sym, ap, ◌∙◌}
use mathlib.Core.List.{List}
use lib.ListN.{length, get_or, take, drop, length-take}
use Rattle.std.proofs.lemmas.Result.{err_from_is_err_and}
use Rattle.reading.proofs.Numbers.{some_refusal}
use Rattle.reading.specs.internal.Verdicts.{Accepted, Refused}
use Rattle.reading.specs.internal.Verdicts.{verdict_of}
use Rattle.tib_field.specs.Steps.{Over as Whole}
use Rattle.tib_rv_field.specs.Layout.{depth as depth-of}
use Rattle.tib_rv_field.specs.declared.Sizes.{Sizes}
use Rattle.tib_rv_field.specs.declared.Extent.{Extent}
use Rattle.tib_rv_field.specs.declared.Extent.TheVariants.{Plain, Holder}
use Rattle.tib_rv_field.specs.Reading.{Into, next_field, lead, total, fields_from, header_fault, message_from}
use Rattle.tib_rv_field.specs.internal.Measured.{measured}
use Rattle.tib_rv.specs.CheckAndField.{count}
use Rattle.tib_rv_field.proofs.Accepted.{header_good}
use Rattle.tib_rv.proofs.MessageLoop.{State, start, at_end, at_fault, over_leaf, over_nested, refused_nested, over_fits, into_fits, lead_within, lead_at, leaf_here, fault_here, holder_here, counts_small, header_open, header_bad, too_deep_lem}
use Rattle.tib_rv.proofs.+message.Goals as goal

-- The verdict on the whole message, by the verdict on its fields.
opened : (levels field at : ℕ) (s : List ℕ) → 1 ≤ levels → header_fault s ≡ 0
    → verdict_of count depth-of (fields_from (message_from (levels - 1)) (suc (length s)) (at + 8) (drop 8 s)) ≡ verdict_of count depth-of (message_from levels field at s)
opened levels field at s h e = header_open levels field at s (λ z. omega arith) e

-- What stands at i, and how many octets it has.
extent : (x y : Extent) (s : List ℕ) (i : ℕ) → x ≡ y → Whole x ≡ measured (next_field (take (length s - i) (drop i s)))
    → Whole y ≡ measured (next_field (take (length s - i) (drop i s)))
extent x y s i e f = ap (λ (v : Extent). Whole v) (sym e) ∙ f

module _ (levels at : ℕ) (s : List ℕ) (i f d : ℕ) (state : State (message_from (levels - 1)) at s i f d) (inside : i < length s) where
  -- A field that holds no message.
  module _ (n : ℕ) (e : Whole (Plain n) ≡ measured (next_field (take (length s - i) (drop i s)))) where
    over_ends : (i < i + n) × (i + n ≤ length s)
    over_ends =
        let o = leaf_here s i inside n e in
        let h = over_fits (message_from (levels - 1)) at s i f d state o.0 o.1 in
        let q = o.2 in
        let a = h.0 in
        let b = h.1 in
        (omega arith, omega arith)

    over_next : State (message_from (levels - 1)) at s (i + n) (f + 1) d
    over_next =
        let o = leaf_here s i inside n e in
        let q = o.2 in
        over_leaf (message_from (levels - 1)) at s i f d state o.0 (i + n) o.1 (omega arith)

  -- A field that holds a message: where this starts and ends.
  module _ (n : ℕ) (e : Whole (Holder n) ≡ measured (next_field (take (length s - i) (drop i s)))) (x : ℕ) (r : x ≡ get_or s i 0) where
    held_here : (z : Sizes) × (next_field (drop i s) ≡ Into z) × (n ≡ total z)
    held_here = holder_here s i inside n e

    abbrev z : Sizes
    z = held_here.0

    abbrev from : ℕ
    from = i + 3 + x

    abbrev end : ℕ
    end = i + n

    from_is : from ≡ i + lead z
    from_is = lead_at s i z held_here.1 x r

    end_is : end ≡ i + total z
    end_is = let q = held_here.2 in omega arith

    part : (i < from) × (from ≤ end) × (end ≤ length s)
    part =
        let h = into_fits (message_from (levels - 1)) at s i f d state z held_here.1 in
        let a = lead_within z in
        let p = h.0 in
        let q = h.1 in
        let x₀ = a.0 in
        let y₀ = a.1 in
        let u = from_is in
        let v = end_is in
        (omega arith, omega arith, omega arith)

    abbrev held : List ℕ
    held = take (end - from) (drop from s)

    held_length : length held ≤ end - from
    held_length = let l = length-take (end - from) (drop from s) in omega arith

    -- The nested message's counts are small.
    inner_small : (g h : ℕ) → Accepted g h ≡ verdict_of count depth-of (message_from (levels - 1) (at + i) (at + from) held) → (g ≤ end - from) × (h ≤ levels - 1)
    inner_small g h o =
        let k = counts_small (levels - 1) (at + i) (at + from) held g h (sym o) in
        let l = held_length in
        let p = k.0 in
        (omega arith, k.1)

    nested_next : (g h m : ℕ) → Accepted g h ≡ verdict_of count depth-of (message_from (levels - 1) (at + i) (at + from) held) → m ≡ max d (h + 1)
        → State (message_from (levels - 1)) at s end (f + (1 + g)) m
    nested_next g h m o q =
        over_nested (message_from (levels - 1)) at s i f d state z from end (Accepted g h) held_here.1 from_is end_is o g h m refl (inner_small g h o).0 q

    nested_refused : (k p : ℕ) → Refused k p ≡ verdict_of count depth-of (message_from (levels - 1) (at + i) (at + from) held)
        → Refused k p ≡ verdict_of count depth-of (fields_from (message_from (levels - 1)) (suc (length s)) (at + 8) (drop 8 s))
    nested_refused k p o = refused_nested (message_from (levels - 1)) at s i f d state z from end (Refused k p) held_here.1 from_is end_is o k p refl

pub returns-then-levels-eq0 : goal.returns-then-levels-eq0
returns-then-levels-eq0 t c = rw c.at.ensures (too_deep_lem c.args.levels c.args.field c.args.at c.args.s.now c.if-levels-eq0.true)

pub returns-in-Err : goal.returns-in-Err
returns-in-Err t c =
    rw c.at-in-Err.ensures (header_bad c.args.levels c.args.field c.args.at c.args.s.now _ c.if-levels-eq0.false c.in-Err.ensures (some_refusal _))

pub loop-i-init : goal.loop-i-init
loop-i-init t c =
    let h = c.if-levels-eq0.false in
    let e = sym c.in-Ok.ensures in
    (omega arith, e, start (message_from (c.args.levels - 1)) c.args.at c.args.s.now (header_good c.args.s.now e).whole)

pub overflow_add-i : goal.overflow_add-i
overflow_add-i t c =
    let a = c.args in
    let l = c.loop-i in
    let r = over_ends a.levels a.at a.s.now l.i l.fields l.depth l.invariant.2 c.loop-i-test.true c.in-Ok-Plain.n (extent _ _ a.s.now l.i c.in-Ok-Plain.field-0-is c.in-Ok-Plain.ensures) in
    let p = r.1 in
    let k = c.requires.s_bound in
    record { fits = omega arith }

pub overflow_add-fields : goal.overflow_add-fields
overflow_add-fields t c =
    let l = c.loop-i in
    let h = l.invariant.2.inside in
    let f = l.invariant.2.few in
    let k = c.requires.s_bound in
    record { fits = omega arith }

pub loop-i-smaller-in-Ok-Plain : goal.loop-i-smaller-in-Ok-Plain
loop-i-smaller-in-Ok-Plain t c =
    let a = c.args in
    let l = c.loop-i in
    let r = over_ends a.levels a.at a.s.now l.i l.fields l.depth l.invariant.2 c.loop-i-test.true c.in-Ok-Plain.n (extent _ _ a.s.now l.i c.in-Ok-Plain.field-0-is c.in-Ok-Plain.ensures) in
    let p = r.0 in
    let q = r.1 in
    omega arith

pub loop-i-preserved-in-Ok-Plain : goal.loop-i-preserved-in-Ok-Plain
loop-i-preserved-in-Ok-Plain t c =
    let a = c.args in
    let l = c.loop-i in (
      l.invariant.0,
      l.invariant.1,
      over_next a.levels a.at a.s.now l.i l.fields l.depth l.invariant.2 c.loop-i-test.true c.in-Ok-Plain.n (extent _ _ a.s.now l.i c.in-Ok-Plain.field-0-is c.in-Ok-Plain.ensures),
    )

pub returns-in-Err-field_octets : goal.returns-in-Err-field_octets
returns-in-Err-field_octets t c =
    let a = c.args in
    let l = c.loop-i in
    rw c.at-in-Err-field_octets.ensures
    (at_fault (message_from (a.levels - 1)) a.at a.s.now l.i l.fields l.depth l.invariant.2 _ (fault_here a.s.now l.i c.loop-i-test.true _ c.in-Err-field_octets.ensures)
    ∙ opened a.levels a.field a.at a.s.now l.invariant.0 l.invariant.1)

pub overflow_add-e : goal.overflow_add-e
overflow_add-e t c =
    let a = c.args in
    let l = c.loop-i in
    let r = (part a.levels a.at a.s.now l.i l.fields l.depth l.invariant.2 c.loop-i-test.true c.in-Ok-Holder.n (extent _ _ a.s.now l.i c.in-Ok-Holder.field-0-is c.in-Ok-Holder.ensures) c.from.result c.from.ensures).2 in
    let k = c.requires.s_bound in
    record { fits = omega arith }

pub slice_bounds-message-count : goal.slice_bounds-message-count
slice_bounds-message-count t c =
    let a = c.args in
    let l = c.loop-i in
    (part a.levels a.at a.s.now l.i l.fields l.depth l.invariant.2 c.loop-i-test.true c.in-Ok-Holder.n (extent _ _ a.s.now l.i c.in-Ok-Holder.field-0-is c.in-Ok-Holder.ensures) c.from.result c.from.ensures).1

pub slice_bounds-message-start : goal.slice_bounds-message-start
slice_bounds-message-start t c =
    let a = c.args in
    let l = c.loop-i in
    let h = part a.levels a.at a.s.now l.i l.fields l.depth l.invariant.2 c.loop-i-test.true c.in-Ok-Holder.n (extent _ _ a.s.now l.i c.in-Ok-Holder.field-0-is c.in-Ok-Holder.ensures) c.from.result c.from.ensures in
    let p = h.1 in
    let q = h.2 in
    omega arith

pub slice_bounds-message-end : goal.slice_bounds-message-end
slice_bounds-message-end t c =
    let a = c.args in
    let l = c.loop-i in
    let h = (part a.levels a.at a.s.now l.i l.fields l.depth l.invariant.2 c.loop-i-test.true c.in-Ok-Holder.n (extent _ _ a.s.now l.i c.in-Ok-Holder.field-0-is c.in-Ok-Holder.ensures) c.from.result c.from.ensures).2 in
    omega arith

pub message-requires : goal.message-requires
message-requires t c =
    let a = c.args in
    let l = c.loop-i in
    let x = extent _ _ a.s.now l.i c.in-Ok-Holder.field-0-is c.in-Ok-Holder.ensures in
    let h = (part a.levels a.at a.s.now l.i l.fields l.depth l.invariant.2 c.loop-i-test.true c.in-Ok-Holder.n x c.from.result c.from.ensures).1 in
    let g = (part a.levels a.at a.s.now l.i l.fields l.depth l.invariant.2 c.loop-i-test.true c.in-Ok-Holder.n x c.from.result c.from.ensures).2 in
    let k = c.requires.s_bound in
    let b = c.requires.levels_le_depth_limit in
    let r = l.invariant.0 in
    let m = held_length a.levels a.at a.s.now l.i l.fields l.depth l.invariant.2 c.loop-i-test.true c.in-Ok-Holder.n x c.from.result c.from.ensures in
    (omega arith, (omega arith, omega arith))

pub returns-in_err-inner-in-Ok-Holder : goal.returns-in_err-inner-in-Ok-Holder
returns-in_err-inner-in-Ok-Holder t c =
    let a = c.args in
    let l = c.loop-i in
    let p = err_from_is_err_and c.from_residual.result c.from_residual.ensures.1 in
    rw (p.1, p.2)
    (nested_refused a.levels a.at a.s.now l.i l.fields l.depth l.invariant.2 c.loop-i-test.true c.in-Ok-Holder.n (extent _ _ a.s.now l.i c.in-Ok-Holder.field-0-is c.in-Ok-Holder.ensures) c.from.result c.from.ensures _ _
    c.in_err-inner-in-Ok-Holder.ensures
    ∙ opened a.levels a.field a.at a.s.now l.invariant.0 l.invariant.1)

pub overflow_add-fields-in-Ok-Holder : goal.overflow_add-fields-in-Ok-Holder
overflow_add-fields-in-Ok-Holder t c =
    let a = c.args in
    let l = c.loop-i in
    let x = extent _ _ a.s.now l.i c.in-Ok-Holder.field-0-is c.in-Ok-Holder.ensures in
    let g = (part a.levels a.at a.s.now l.i l.fields l.depth l.invariant.2 c.loop-i-test.true c.in-Ok-Holder.n x c.from.result c.from.ensures).2 in
    let h = (inner_small a.levels a.at a.s.now l.i l.fields l.depth l.invariant.2 c.loop-i-test.true c.in-Ok-Holder.n x c.from.result c.from.ensures _ _ c.in_ok-inner-in-Ok-Holder.ensures).0 in
    let k = c.requires.s_bound in
    record { fits = omega arith }

pub overflow_add-fields-in-Ok-Holder-2 : goal.overflow_add-fields-in-Ok-Holder-2
overflow_add-fields-in-Ok-Holder-2 t c =
    let a = c.args in
    let l = c.loop-i in
    let x = extent _ _ a.s.now l.i c.in-Ok-Holder.field-0-is c.in-Ok-Holder.ensures in
    let q = part a.levels a.at a.s.now l.i l.fields l.depth l.invariant.2 c.loop-i-test.true c.in-Ok-Holder.n x c.from.result c.from.ensures in
    let p = q.0 in
    let g = q.2 in
    let h = (inner_small a.levels a.at a.s.now l.i l.fields l.depth l.invariant.2 c.loop-i-test.true c.in-Ok-Holder.n x c.from.result c.from.ensures _ _ c.in_ok-inner-in-Ok-Holder.ensures).0 in
    let f = l.invariant.2.few in
    let k = c.requires.s_bound in
    record { fits = omega arith }

pub overflow_add-inner : goal.overflow_add-inner
overflow_add-inner t c =
    let a = c.args in
    let l = c.loop-i in
    let x = extent _ _ a.s.now l.i c.in-Ok-Holder.field-0-is c.in-Ok-Holder.ensures in
    let h = (inner_small a.levels a.at a.s.now l.i l.fields l.depth l.invariant.2 c.loop-i-test.true c.in-Ok-Holder.n x c.from.result c.from.ensures _ _ c.in_ok-inner-in-Ok-Holder.ensures).1 in
    let k = c.requires.levels_le_depth_limit in
    record { fits = omega arith }

pub loop-i-smaller : goal.loop-i-smaller
loop-i-smaller t c =
    let a = c.args in
    let l = c.loop-i in
    let h = part a.levels a.at a.s.now l.i l.fields l.depth l.invariant.2 c.loop-i-test.true c.in-Ok-Holder.n (extent _ _ a.s.now l.i c.in-Ok-Holder.field-0-is c.in-Ok-Holder.ensures) c.from.result c.from.ensures in
    let p = h.0 in
    let q = h.1 in
    let r = h.2 in
    omega arith

pub loop-i-preserved : goal.loop-i-preserved
loop-i-preserved t c =
    let a = c.args in
    let l = c.loop-i in (
      l.invariant.0,
      l.invariant.1,
      nested_next a.levels a.at a.s.now l.i l.fields l.depth l.invariant.2 c.loop-i-test.true c.in-Ok-Holder.n (extent _ _ a.s.now l.i c.in-Ok-Holder.field-0-is c.in-Ok-Holder.ensures) c.from.result c.from.ensures _ _ c.max-depth.result
          c.in_ok-inner-in-Ok-Holder.ensures c.max-depth.ensures,
    )

pub returns : goal.returns
returns t c =
    let a = c.args in
    let l = c.loop-i in
    at_end (message_from (a.levels - 1)) a.at a.s.now l.i l.fields l.depth l.invariant.2 c.loop-i-test.false
    ∙ opened a.levels a.field a.at a.s.now l.invariant.0 l.invariant.1
