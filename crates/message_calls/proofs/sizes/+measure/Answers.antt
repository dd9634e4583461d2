-- `measure` counts the octets of the shortest form of the fields so far.
use Prim.Native.Nat.{ℕ, suc, ◌+◌, ◌-◌, ◌%◌, ◌≤◌, ◌<◌}
use native.Mathlib.Omega.{arith}
use mathlib.Core.Path.{◌≡◌, refl, sym, ap, ◌∙◌, subst}
use mathlib.Core.List.{List}
use lib.ListN.{length, take, drop, length-drop, length-take}
use Rattle.message.specs.internal.Accepts.{Accepts}
use Rattle.message.proofs.Accepted.{accepts_levels}
use Rattle.message.specs.Tree.{value}
use Rattle.message.specs.Shortest.{field, least_contents}
use Rattle.octets.specs.Number.{Octets}
use Rattle.octets.specs.Control.{least_control}
use Rattle.octets.proofs.Number.{octets_part}
use Rattle.table.specs.Schema.{Schema}
use Rattle.table.specs.declared.Meaning.TheVariants.{Message}
use Rattle.table_index.specs.internal.Cells.{meaning_of, indexed}
use Rattle.table_index.proofs.Meanings as meaning
use Rattle.message_field.specs.internal.Heads.{head_at}
use Rattle.message_field.specs.internal.Heads.{Field}
use Rattle.message_field.proofs.FieldsByHead.{Ends}
use Rattle.message_calls.specs.internal.Stores.{shortest_within}
use Rattle.message_calls.proofs.Codes.{plain_code, code_means}
use Rattle.message_calls.proofs.MeasureLoop.{Counted, counted_none, counted_all, counted_few, short_few, next_ends, next_contents, leaf_counted, nested_accepts, nested_counted}
use Rattle.message_calls.proofs.sizes.+measure.Goals as goal
use Rattle.message_calls.proofs.sizes.+measure.Goals.{After-code-code}

-- The levels of an accepted message are some.
module _ (sc : Schema) (levels n : ℕ) (s : List ℕ) (accepted : Accepts sc levels n s) where
  levels-is : suc (levels - 1) ≡ levels
  levels-is = accepts_levels sc levels n s accepted

  accepts : Accepts sc (suc (levels - 1)) n s
  accepts = subst (λ (r : ℕ). Accepts sc r n s) (sym levels-is) accepted

  -- What has been counted so far is small.
  counted-small : length s ≤ 65536 → Octets s → (i size : ℕ) → Counted sc (levels - 1) n s i size → size ≤ 65536
  counted-small few octets i size p =
      let h = counted_few sc (levels - 1) n s i size p in
      let k = short_few sc (suc (levels - 1)) n s octets accepts in
      omega arith

-- The contents of a field are few octets.
part-few : (s : List ℕ) → length s ≤ 65536 → (j n : ℕ) → length (take n (drop j s)) ≤ 65536
part-few s few j n = simp (length-take, length-drop) (omega arith)

-- The place after the code of the field's tag was found.
module _ (t : ℕ) (c : After-code-code t) where
  abbrev sc : Schema
  sc = indexed c.args.cells.now

  abbrev few : length c.args.s.now ≤ 65536
  few = c.requires.s_len_bound

  abbrev i : ℕ
  i = c.loop-t.i

  abbrev size : ℕ
  size = c.loop-t.size

  abbrev state : Counted sc (c.args.levels - 1) c.args.number c.args.s.now i size
  state = c.loop-t.invariant

  abbrev tag : ℕ
  tag = c.in-Some.field-0.tag

  abbrev start : ℕ
  start = c.in-Some.field-0.start

  abbrev end : ℕ
  end = c.in-Some.field-0.end

  abbrev code : ℕ
  code = c.code-code.result

  found : head_at i (drop i c.args.s.now) ≡ Field tag start end
  found = c.in-Some.ensures

  means : meaning_of code ≡ sc.means c.args.number tag
  means = code_means c.args.cells.now c.args.number tag c.cell-cell.result code c.cell-cell.ensures c.code-code.ensures

  next : Ends sc (c.args.levels - 1) c.args.number c.args.s.now i state.passed.remaining tag start end found
  next = next_ends sc (c.args.levels - 1) c.args.number c.args.s.now i size state c.requires.octets tag start end found (meaning_of code) means

  -- The number of the message that the field holds.
  abbrev inner : ℕ
  inner = code - 5

  message : 5 ≤ code → meaning_of code ≡ Message inner
  message h = sym (meaning.message code h)

  abbrev contents : List ℕ
  contents = take (end - start) (drop start c.args.s.now)

  inside : (h : 5 ≤ code) → (1 ≤ c.args.levels - 1) × Accepts sc (c.args.levels - 1) inner contents
  inside h = nested_accepts sc (c.args.levels - 1) c.args.number c.args.s.now i size state c.requires.octets tag start end found (meaning_of code) means inner (message h)

  -- One more field is counted.
  leaf : code < 5 → (r : ℕ) → r ≡ length (field (tag % 65536) (least_contents (value (meaning_of code) contents)))
      → Counted sc (c.args.levels - 1) c.args.number c.args.s.now end (size + r)
  leaf h r e = leaf_counted sc (c.args.levels - 1) c.args.number c.args.s.now i size state c.requires.octets tag start end found (meaning_of code) means r (plain_code code h) e

  nested : 5 ≤ code → (n l : ℕ) → n ≡ length (shortest_within sc (c.args.levels - 1) inner contents) → l ≡ length (least_control (tag % 65536) n)
      → Counted sc (c.args.levels - 1) c.args.number c.args.s.now end (size + (l + n))
  nested h n l p q = nested_counted sc (c.args.levels - 1) c.args.number c.args.s.now i size state c.requires.octets tag start end found (meaning_of code) means inner (message h) n l p q

  -- A count after one more field is small.
  small-after : (r : ℕ) → Counted sc (c.args.levels - 1) c.args.number c.args.s.now end r → r ≤ 65536
  small-after r p = counted-small sc c.args.levels c.args.number c.args.s.now c.requires.accepts few c.requires.octets end r p

pub loop-t-init : goal.loop-t-init
loop-t-init t c =
    let a = c.args in
    counted_none (indexed a.cells.now) (a.levels - 1) a.number a.s.now (accepts (indexed a.cells.now) a.levels a.number a.s.now c.requires.accepts)

pub slice_bounds-value_size-count : goal.slice_bounds-value_size-count
slice_bounds-value_size-count t c = let h = next t (goal.at.slice_bounds-value_size-count t c).After-code-code in omega arith

pub slice_bounds-value_size-start : goal.slice_bounds-value_size-start
slice_bounds-value_size-start t c = let h = next t (goal.at.slice_bounds-value_size-start t c).After-code-code in omega arith

pub slice_bounds-value_size-end : goal.slice_bounds-value_size-end
slice_bounds-value_size-end t c = let h = next t (goal.at.slice_bounds-value_size-end t c).After-code-code in omega arith

pub value_size-size-requires-clause-contents : goal.value_size-size-requires-clause-contents
value_size-size-requires-clause-contents t c =
    let a = c.args in
    let f = (goal.at.value_size-size-requires-clause-contents t c).After-code-code in
    next_contents (indexed a.cells.now) (a.levels - 1) a.number a.s.now c.loop-t.i c.loop-t.size c.loop-t.invariant c.requires.octets c.in-Some.field-0.tag c.in-Some.field-0.start c.in-Some.field-0.end (found t f) (meaning_of c.code-code.result) (means t f) (plain_code c.code-code.result c.if-code-lt5.true)

pub overflow_add-size : goal.overflow_add-size
overflow_add-size t c =
    let f = (goal.at.overflow_add-size t c).After-code-code in
    let h = small-after t f (c.loop-t.size + c.value_size-size.result) (leaf t f c.if-code-lt5.true c.value_size-size.result c.value_size-size.ensures) in
    omega arith

pub loop-t-smaller-then-code-lt5 : goal.loop-t-smaller-then-code-lt5
loop-t-smaller-then-code-lt5 t c = let h = next t (goal.at.loop-t-smaller-then-code-lt5 t c).After-code-code in omega arith

pub loop-t-preserved-then-code-lt5 : goal.loop-t-preserved-then-code-lt5
loop-t-preserved-then-code-lt5 t c = leaf t (goal.at.loop-t-preserved-then-code-lt5 t c).After-code-code c.if-code-lt5.true c.value_size-size.result c.value_size-size.ensures

pub overflow_sub-levels : goal.overflow_sub-levels
overflow_sub-levels t c = let h = (inside t (goal.at.overflow_sub-levels t c).After-code-code c.if-code-lt5.false).0 in omega arith

pub slice_bounds-measure-count : goal.slice_bounds-measure-count
slice_bounds-measure-count t c = let h = next t (goal.at.slice_bounds-measure-count t c).After-code-code in omega arith

pub slice_bounds-measure-start : goal.slice_bounds-measure-start
slice_bounds-measure-start t c = let h = next t (goal.at.slice_bounds-measure-start t c).After-code-code in omega arith

pub slice_bounds-measure-end : goal.slice_bounds-measure-end
slice_bounds-measure-end t c = let h = next t (goal.at.slice_bounds-measure-end t c).After-code-code in omega arith

pub measure-n-requires : goal.measure-n-requires
measure-n-requires t c =
    let a = c.args in
    let h = inside t (goal.at.measure-n-requires t c).After-code-code c.if-code-lt5.false in
    let k = h.0 in
    let p = c.decreases in
    let start = c.in-Some.field-0.start in
    let n = c.in-Some.field-0.end - start in
    (omega arith, (part-few a.s.now c.requires.s_len_bound start n, (octets_part n start a.s.now c.requires.octets, h.1)))

pub overflow_add-size-else-code-lt5 : goal.overflow_add-size-else-code-lt5
overflow_add-size-else-code-lt5 t c =
    let f = (goal.at.overflow_add-size-else-code-lt5 t c).After-code-code in
    let h = small-after t f (c.loop-t.size + (c.control_size.result + c.measure-n.result)) (nested t f c.if-code-lt5.false c.measure-n.result c.control_size.result c.measure-n.ensures c.control_size.ensures) in
    omega arith

pub overflow_add-size-else-code-lt5-2 : goal.overflow_add-size-else-code-lt5-2
overflow_add-size-else-code-lt5-2 t c =
    let f = (goal.at.overflow_add-size-else-code-lt5-2 t c).After-code-code in
    let h = small-after t f (c.loop-t.size + (c.control_size.result + c.measure-n.result)) (nested t f c.if-code-lt5.false c.measure-n.result c.control_size.result c.measure-n.ensures c.control_size.ensures) in
    omega arith

pub loop-t-smaller : goal.loop-t-smaller
loop-t-smaller t c = let h = next t (goal.at.loop-t-smaller t c).After-code-code in omega arith

pub loop-t-preserved : goal.loop-t-preserved
loop-t-preserved t c = nested t (goal.at.loop-t-preserved t c).After-code-code c.if-code-lt5.false c.measure-n.result c.control_size.result c.measure-n.ensures c.control_size.ensures

pub returns : goal.returns
returns t c =
    let a = c.args in
    let l = c.loop-t in
    counted_all (indexed a.cells.now) (a.levels - 1) a.number a.s.now l.i l.size l.invariant
    (head_at l.i (drop l.i a.s.now)) refl c.in_default.ensures
    ∙ ap (λ (r : ℕ). length (shortest_within (indexed a.cells.now) r a.number a.s.now)) (levels-is (indexed a.cells.now) a.levels a.number a.s.now c.requires.accepts)
