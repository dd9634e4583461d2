-- `traverse` keeps the loop invariant, and answers by it where it returns.
use Prim.Native.Nat.{ℕ, suc, ◌+◌, ◌-◌, ◌≤◌, ◌<◌, max}
use native.Mathlib.Omega.{arith}
use mathlib.Core.Path.{◌≡◌, refl, sym, ap, ◌∙◌, subst}
use mathlib.Core.Bool.{Bool, true, false, ◌&&◌}
use mathlib.Core.List.{List, []}
use lib.ListN.{length, take, drop, length-take}
use Rattle.std.proofs.lemmas.Result.{err_from_is_err_and}
use Rattle.reading.specs.Reading.{Reading}
use Rattle.reading.specs.Refusals.{number}
use Rattle.reading.specs.internal.Verdicts.{Verdict}
use Rattle.reading.specs.internal.Verdicts.{Accepted, Refused}
use Rattle.table.specs.Schema.{Schema}
use Rattle.table_index.specs.internal.Cells.{indexed}
use Rattle.message.specs.Cut.{Cut}
use Rattle.message.specs.Reading.{Inner, fields_from, message_from}
use Rattle.message.specs.internal.Short.{short_reading}
use Rattle.message_field.specs.internal.Nexts.{Next, Done, Fault, Over, Into, next_of, noted_tags}
use Rattle.message_field.proofs.Notes.{same_next}
use Rattle.message_calls.specs.internal.Verdicts as verdicts
use Rattle.message_calls.proofs.CheckLoop.{open_reading, any_field_lem, nested_small}
use Rattle.message_calls.proofs.SmallFields.{over_passed}
use Rattle.message_calls.proofs.Progress.{Progress, started, Answers, ended, faulted, over_ends, passed, into_ends, may_nest, entered, inner_refused}
use Rattle.message_calls.proofs.traversal.+traverse.Goals as goal
use Rattle.message_calls.proofs.traversal.+traverse.Goals.{At-loop-end, In-Passed, In-Over, In-Into}

-- A turn of the loop.
module _ (t : ℕ) (b : At-loop-end t) where
  abbrev cells : List ℕ
  cells = b.args.index.now.cells

  abbrev sc : Schema
  sc = indexed cells

  abbrev nested : ℕ
  nested = b.args.levels - 1

  abbrev inner : Inner
  inner = message_from sc nested

  abbrev octets : List ℕ
  octets = b.args.s.now

  abbrev i : ℕ
  i = b.loop-end.i

  abbrev seen : ℕ
  seen = b.loop-end.seen

  abbrev fields : ℕ
  fields = b.loop-end.found.counts.fields

  abbrev depth : ℕ
  depth = b.loop-end.found.counts.depth

  abbrev shortest : Bool
  shortest = b.loop-end.found.shortest

  so_far : Progress cells nested inner b.args.n b.args.at octets seen i fields depth shortest
  so_far = b.loop-end.invariant

  abbrev here : Next
  here = next_of cells nested b.args.n so_far.before seen octets i

  -- What `step` finds.
  found : (x : Next) → x ≡ next_of cells nested b.args.n (noted_tags cells b.args.n seen) seen octets i → here ≡ x
  found x e = sym (e ∙ same_next cells b.args.n seen nested so_far.before octets i so_far.notes)

  room : b.args.at + length octets ≤ 65536
  room = b.requires.s_bound

  levels : (1 ≤ b.args.levels) × (b.args.levels ≤ 8)
  levels = b.requires.le_levels

  -- The offset is within the message, and there were no more fields than octets.
  inside : b.args.at + i ≤ 65536
  inside = let h = so_far.state.inside in let k = room in omega arith

  few : fields ≤ i
  few = so_far.state.few

  -- The reading of the message is that of its fields.
  opened : fields_from sc nested inner b.args.n [] (suc (length octets)) (b.args.at + 0) (drop 0 octets) ≡ message_from sc b.args.levels b.args.n 0 b.args.at octets
  opened = open_reading sc b.args.levels b.args.n 0 b.args.at octets levels.0

  -- The verdict on the message, and whether it is in its shortest form, by its fields.
  verdict-is : (w : Verdict) (y : Bool) → Answers cells nested inner b.args.n b.args.at octets w y
      → w ≡ verdicts.verdict (message_from sc b.args.levels b.args.n 0 b.args.at octets)
  verdict-is w y r = r.verdict_is ∙ ap verdicts.verdict opened

  short-is : (w : Verdict) (y : Bool) → Answers cells nested inner b.args.n b.args.at octets w y
      → y ≡ short_reading sc b.args.n (message_from sc b.args.levels b.args.n 0 b.args.at octets)
  short-is w y r = r.short_is ∙ ap (short_reading sc b.args.n) opened

  -- What the facts of `Progress` ask for first.
  found-ended : here ≡ Done → Answers cells nested inner b.args.n b.args.at octets (Accepted fields depth) shortest
  found-ended = ended cells nested inner b.args.n b.args.at octets seen i fields depth shortest so_far

  found-fault : (k : ℕ) → here ≡ Fault k → Answers cells nested inner b.args.n b.args.at octets (Refused k (b.args.at + i)) false
  found-fault = faulted cells nested inner b.args.n b.args.at octets seen i fields depth shortest so_far

  -- A field that is no message.
  module _ (e : ℕ) (x : Bool) (p : ℕ) (h : here ≡ Over e x p) where
    leaf-ends : (i < e) × (e ≤ length octets)
    leaf-ends = over_ends cells nested inner b.args.n b.args.at octets seen i fields depth shortest so_far e x p h

    leaf-passed : Progress cells nested inner b.args.n b.args.at octets p e (fields + 1) (max depth 0) (shortest && x)
    leaf-passed =
        let m : depth ≡ max depth 0 = omega arith in
        subst (λ (d : ℕ). Progress cells nested inner b.args.n b.args.at octets p e (fields + 1) d (shortest && x)) m
        (passed cells nested inner b.args.n b.args.at octets seen i fields depth shortest so_far e x p h b.args.index.now.one_order)

pub loop-end-init : goal.loop-end-init
loop-end-init t c =
    let a = c.args in
    started a.index.now.cells (a.levels - 1) (message_from (indexed a.index.now.cells) (a.levels - 1)) a.n a.at a.s.now

pub returns-in-Done : goal.returns-in-Done
returns-in-Done t c =
    let b = (goal.at.returns-in-Done t c).At-loop-end in
    let r = found-ended t b (found t b Done c.in-Done.ensures) in
    record { verdict_value = verdict-is t b _ _ r; shortest_value = short-is t b _ _ r }

pub overflow_add-at : goal.overflow_add-at
overflow_add-at t c = let h = inside t (goal.at.overflow_add-at t c).At-loop-end in omega arith

pub returns-in-Fault : goal.returns-in-Fault
returns-in-Fault t c =
    let b = (goal.at.returns-in-Fault t c).At-loop-end in
    let k = number c.in-Fault.refusal in
    let r = found-fault t b k (found t b (Fault k) c.in-Fault.ensures) in
    record { verdict_value = rw c.at.ensures (verdict-is t b _ _ r); shortest_value = short-is t b _ _ r }

-- A field that is no message.
module _ (t : ℕ) (b : At-loop-end t) (e : ℕ) (x : Bool) (p : ℕ) (h : here t b ≡ Over e x p) where
  over-room : fields t b + 1 ≤ 65536
  over-room =
      let k = leaf-ends t b e x p h in
      let u = k.0 in
      let v = k.1 in
      let f = few t b in
      let r = room t b in
      omega arith

  over-nearer : length (octets t b) - e < length (octets t b) - i t b
  over-nearer = let k = leaf-ends t b e x p h in let u = k.0 in let v = k.1 in omega arith

passed-found : (t : ℕ) (c : In-Passed t) → let b = (goal.at.with_field-found-requires t c).At-loop-end in here t b ≡ Over c.in-Passed.end true c.in-Passed.after
passed-found t c =
    let b = (goal.at.with_field-found-requires t c).At-loop-end in
    found t b (Over c.in-Passed.end true c.in-Passed.after)
    (over_passed (cells t b) (nested t b) b.args.n (seen t b) (octets t b) (i t b) c.in-Passed.end c.in-Passed.after c.in-Passed.ensures)

over-found : (t : ℕ) (c : In-Over t) → let b = (goal.at.with_field-found-requires-in-Over t c).At-loop-end in
    here t b ≡ Over c.in-Over.e c.in-Over.short c.in-Over.mask
over-found t c =
    found t (goal.at.with_field-found-requires-in-Over t c).At-loop-end (Over c.in-Over.e c.in-Over.short c.in-Over.mask)
    c.in-Over.ensures

pub with_field-found-requires : goal.with_field-found-requires
with_field-found-requires t c = over-room t (goal.at.with_field-found-requires t c).At-loop-end _ _ _ (passed-found t c)

pub loop-end-smaller-in-Passed : goal.loop-end-smaller-in-Passed
loop-end-smaller-in-Passed t c =
    let f = goal.at.loop-end-smaller-in-Passed t c in
    over-nearer t f.At-loop-end _ _ _ (passed-found t f.In-Passed)

pub loop-end-preserved-in-Passed : goal.loop-end-preserved-in-Passed
loop-end-preserved-in-Passed t c =
    let f = goal.at.loop-end-preserved-in-Passed t c in
    rw c.with_field-found.ensures (leaf-passed t f.At-loop-end c.in-Passed.end true c.in-Passed.after (passed-found t f.In-Passed))

pub with_field-found-requires-in-Over : goal.with_field-found-requires-in-Over
with_field-found-requires-in-Over t c = over-room t (goal.at.with_field-found-requires-in-Over t c).At-loop-end _ _ _ (over-found t c)

pub loop-end-smaller-in-Over : goal.loop-end-smaller-in-Over
loop-end-smaller-in-Over t c =
    let f = goal.at.loop-end-smaller-in-Over t c in
    over-nearer t f.At-loop-end _ _ _ (over-found t f.In-Over)

pub loop-end-preserved-in-Over : goal.loop-end-preserved-in-Over
loop-end-preserved-in-Over t c =
    let f = goal.at.loop-end-preserved-in-Over t c in
    rw c.with_field-found-in-Over.ensures
    (leaf-passed t f.At-loop-end c.in-Over.e c.in-Over.short c.in-Over.mask (over-found t f.In-Over))

-- A field that is a message.
module _ (t : ℕ) (c : In-Into t) where
  abbrev in-loop : At-loop-end t
  in-loop = (goal.at.overflow_add-at-in-Into t c).At-loop-end

  in-found : here t in-loop ≡ Into c.in-Into.m c.in-Into.a c.in-Into.e c.in-Into.short c.in-Into.mask
  in-found = found t in-loop (Into c.in-Into.m c.in-Into.a c.in-Into.e c.in-Into.short c.in-Into.mask) c.in-Into.ensures

  in-ends : (c.loop-end.i < c.in-Into.a) × (c.in-Into.a ≤ c.in-Into.e) × (c.in-Into.e ≤ length c.args.s.now)
  in-ends =
      let b = in-loop in
      into_ends (cells t b) (nested t b) (inner t b) b.args.n b.args.at (octets t b) (seen t b) (i t b) (fields t b) (depth t b) (shortest t b)
      (so_far t b) c.in-Into.m c.in-Into.a c.in-Into.e c.in-Into.short c.in-Into.mask in-found

  -- One level more may be nested.
  in-nests : 1 ≤ nested t in-loop
  in-nests =
      let b = in-loop in
      may_nest (cells t b) (nested t b) (inner t b) b.args.n b.args.at (octets t b) (seen t b) (i t b) (fields t b) (depth t b) (shortest t b)
      (so_far t b) c.in-Into.m c.in-Into.a c.in-Into.e c.in-Into.short c.in-Into.mask in-found

  -- The place of its contents is within the message.
  in-place : c.args.at + c.in-Into.a ≤ 65536
  in-place = let h = in-ends in let p = h.1 in let q = h.2 in let k = room t in-loop in omega arith

  abbrev inner-octets : List ℕ
  inner-octets = take (c.in-Into.e - c.in-Into.a) (drop c.in-Into.a c.args.s.now)

  -- Its reading.
  abbrev inner-reading : Reading Cut
  inner-reading = inner t in-loop c.in-Into.m (c.args.at + c.loop-end.i) (c.args.at + c.in-Into.a) inner-octets

  inner-same : message_from (sc t in-loop) (nested t in-loop) c.in-Into.m 0 (c.args.at + c.in-Into.a) inner-octets ≡ inner-reading
  inner-same = any_field_lem (sc t in-loop) (nested t in-loop) c.in-Into.m 0 (c.args.at + c.loop-end.i) (c.args.at + c.in-Into.a) inner-octets in-nests

  -- What the traversal of its contents returned.
  module _ (v : Verdict) (is : v ≡ verdicts.verdict (message_from (sc t in-loop) (nested t in-loop) c.in-Into.m 0 (c.args.at + c.in-Into.a) inner-octets)) where
    inner-verdict : v ≡ verdicts.verdict inner-reading
    inner-verdict = is ∙ ap verdicts.verdict inner-same

    -- It is rejected, and so is the message.
    inner-answers : (k p : ℕ) → v ≡ Refused k p → Answers (cells t in-loop) (nested t in-loop) (inner t in-loop) c.args.n c.args.at (octets t in-loop) (Refused k p) false
    inner-answers =
        let b = in-loop in
        inner_refused (cells t b) (nested t b) (inner t b) b.args.n b.args.at (octets t b) (seen t b) (i t b) (fields t b) (depth t b) (shortest t b)
        (so_far t b) c.in-Into.m c.in-Into.a c.in-Into.e c.in-Into.short c.in-Into.mask in-found v inner-verdict

    module _ (f d : ℕ) (e : v ≡ Accepted f d) where
      inner_small : (f ≤ c.in-Into.e - c.in-Into.a) × (d ≤ nested t in-loop)
      inner_small =
          nested_small (sc t in-loop) (nested t in-loop) c.in-Into.m (c.args.at + c.loop-end.i) (c.args.at + c.in-Into.a) c.in-Into.a c.in-Into.e c.args.s.now f d v
          in-ends.1 in-ends.2 inner-verdict e

      -- There is room to count its fields.
      inner_room : fields t in-loop + (1 + f) ≤ 65536
      inner_room =
          let h = inner_small.0 in
          let p = in-ends.0 in
          let m = in-ends.1 in
          let q = in-ends.2 in
          let k = room t in-loop in
          let w = few t in-loop in
          omega arith

      inner-entered : (x : Bool)
          → x ≡ short_reading (sc t in-loop) c.in-Into.m (message_from (sc t in-loop) (nested t in-loop) c.in-Into.m 0 (c.args.at + c.in-Into.a) inner-octets)
          → Progress (cells t in-loop) (nested t in-loop) (inner t in-loop) c.args.n c.args.at (octets t in-loop) c.in-Into.mask c.in-Into.e
          (fields t in-loop + (1 + f)) (max (depth t in-loop) (d + 1)) (shortest t in-loop && (c.in-Into.short && x))
      inner-entered x q =
          let b = in-loop in
          entered (cells t b) (nested t b) (inner t b) b.args.n b.args.at (octets t b) (seen t b) (i t b) (fields t b) (depth t b) (shortest t b)
          (so_far t b) c.in-Into.m c.in-Into.a c.in-Into.e c.in-Into.short c.in-Into.mask in-found v inner-verdict b.args.index.now.one_order
          x (q ∙ ap (short_reading (sc t b) c.in-Into.m) inner-same) f d (max (depth t b) (d + 1)) e inner_small.0 refl

pub overflow_add-at-in-Into : goal.overflow_add-at-in-Into
overflow_add-at-in-Into t c = let h = in-place t c in omega arith

pub slice_bounds-traverse-count : goal.slice_bounds-traverse-count
slice_bounds-traverse-count t c = (in-ends t (goal.at.slice_bounds-traverse-count t c).In-Into).1

pub slice_bounds-traverse-start : goal.slice_bounds-traverse-start
slice_bounds-traverse-start t c = (in-ends t (goal.at.slice_bounds-traverse-start t c).In-Into).1

pub slice_bounds-traverse-end : goal.slice_bounds-traverse-end
slice_bounds-traverse-end t c = (in-ends t (goal.at.slice_bounds-traverse-end t c).In-Into).2

pub traverse-requires : goal.traverse-requires
traverse-requires t c =
    let f = (goal.at.traverse-requires t c).In-Into in
    let h = (in-ends t f).2 in
    let e = (in-ends t f).1 in
    let k = c.requires.s_bound in
    let o = c.requires.le_levels in
    let o1 = o.1 in
    let more = in-nests t f in
    let p = c.decreases in
    let m : length (inner-octets t f) ≤ c.in-Into.e - c.in-Into.a = simp length-take (omega arith) in
    (omega arith, (omega arith, (omega arith, omega arith)))

-- A nested message that is refused.
pub returns-in_err-inner-in-Into : goal.returns-in_err-inner-in-Into
returns-in_err-inner-in-Into t c =
    let f = (goal.at.returns-in_err-inner-in-Into t c).In-Into in
    let b = in-loop t f in
    let k = c.in_err-inner-in-Into.field-0.0 in
    let r = inner-answers t f (Refused (number k.refusal) k.place) c.in_err-inner-in-Into.ensures.verdict_value (number k.refusal) k.place refl in
    let p = err_from_is_err_and c.from_residual.result c.from_residual.ensures.1 in
    record { verdict_value = rw (p.1, p.2) (verdict-is t b _ _ r); shortest_value = rw p.1 (short-is t b _ _ r) }

pub overflow_add-fields : goal.overflow_add-fields
overflow_add-fields t c =
    let f = (goal.at.overflow_add-fields t c).In-Into in
    let k = c.in_ok-inner-in-Into.inner.counts in
    let h = inner_room t f (Accepted k.fields k.depth) c.in_ok-inner-in-Into.ensures.verdict_value k.fields k.depth refl in
    omega arith

pub overflow_add-depth : goal.overflow_add-depth
overflow_add-depth t c =
    let f = (goal.at.overflow_add-depth t c).In-Into in
    let k = c.in_ok-inner-in-Into.inner.counts in
    let h = (inner_small t f (Accepted k.fields k.depth) c.in_ok-inner-in-Into.ensures.verdict_value k.fields k.depth refl).1 in
    let o = (levels t (in-loop t f)).1 in
    omega arith

pub with_field-found-requires-in-Into : goal.with_field-found-requires-in-Into
with_field-found-requires-in-Into t c =
    let f = (goal.at.with_field-found-requires-in-Into t c).In-Into in
    let k = c.in_ok-inner-in-Into.inner.counts in
    inner_room t f (Accepted k.fields k.depth) c.in_ok-inner-in-Into.ensures.verdict_value k.fields k.depth refl

pub loop-end-smaller : goal.loop-end-smaller
loop-end-smaller t c =
    let h = in-ends t (goal.at.loop-end-smaller t c).In-Into in let p = h.0 in let q = h.1 in let r = h.2 in omega arith

pub loop-end-preserved : goal.loop-end-preserved
loop-end-preserved t c =
    let f = (goal.at.loop-end-preserved t c).In-Into in
    let k = c.in_ok-inner-in-Into.inner in
    rw c.with_field-found-in-Into.ensures
    (inner-entered t f (Accepted k.counts.fields k.counts.depth) c.in_ok-inner-in-Into.ensures.verdict_value k.counts.fields k.counts.depth refl
    k.shortest c.in_ok-inner-in-Into.ensures.shortest_value)
