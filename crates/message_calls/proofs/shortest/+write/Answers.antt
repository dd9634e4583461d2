-- `write` stores the shortest form of the fields so far.
use Prim.Native.Nat.{ℕ, suc, ◌+◌, ◌-◌, ◌%◌, ◌≤◌}
use native.Mathlib.Omega.{arith}
use mathlib.Core.Path.{◌≡◌, refl, sym, subst}
use mathlib.Core.List.{List}
use lib.ListN.{length, take, drop}
use Rattle.message.specs.internal.Accepts.{Accepts}
use Rattle.message.proofs.Accepted.{accepts_levels}
use Rattle.octets.specs.Control.{least_control}
use Rattle.octets.proofs.Number.{octets_part}
use Rattle.table.specs.Schema.{Schema}
use Rattle.table.specs.declared.Meaning.TheVariants.{Message}
use Rattle.table_index.specs.internal.Cells.{meaning_of, indexed}
use Rattle.table_index.proofs.Meanings as meaning
use Rattle.message_field.specs.internal.Heads.{head_at}
use Rattle.message_field.specs.internal.Heads.{Field}
use Rattle.message_field.proofs.FieldsByHead.{Ends}
use Rattle.message_calls.specs.internal.Stores.{shortest_within, Put}
use Rattle.message_calls.proofs.Codes.{plain_code, code_means}
use Rattle.message_calls.proofs.WriteLoop.{Progress, begun, ended, same_length, next_ends, next_contents, leaf_fits, leaf_written, nested_accepts, nested_fits, wrap_fits, nested_written}
use Rattle.message_calls.proofs.shortest.+write.Goals as goal
use Rattle.message_calls.proofs.shortest.+write.Goals.{After-code-code}

-- The levels of an accepted message are some.
module _ (sc : Schema) (levels n : ℕ) (s : List ℕ) (accepted : Accepts sc levels n s) where
  levels-is : suc (levels - 1) ≡ levels
  levels-is = accepts_levels sc levels n s accepted

  accepts : Accepts sc (suc (levels - 1)) n s
  accepts = subst (λ (r : ℕ). Accepts sc r n s) (sym levels-is) accepted

-- The place after the code of the field's tag was found.
module _ (t : ℕ) (c : After-code-code t) where
  abbrev sc : Schema
  sc = indexed c.args.cells.now

  fits : c.args.to + length (shortest_within sc (suc (c.args.levels - 1)) c.args.number c.args.s.now) ≤ length c.args.out.now
  fits = rw (levels-is sc c.args.levels c.args.number c.args.s.now c.requires.accepts) c.requires.s_in_bounds

  abbrev i : ℕ
  i = c.loop-t.i

  abbrev place : ℕ
  place = c.loop-t.place

  abbrev out : List ℕ
  out = c.loop-t.out

  abbrev state : Progress sc (c.args.levels - 1) c.args.number c.args.s.now c.args.out.now c.args.to i place out
  state = c.loop-t.invariant

  abbrev tag : ℕ
  tag = c.in-Some.field-0.tag

  abbrev start : ℕ
  start = c.in-Some.field-0.start

  abbrev end : ℕ
  end = c.in-Some.field-0.end

  abbrev code : ℕ
  code = c.code-code.result

  found : head_at i (drop i c.args.s.now) ≡ Field tag start end
  found = c.in-Some.ensures

  means : meaning_of code ≡ sc.means c.args.number tag
  means = code_means c.args.cells.now c.args.number tag c.cell-cell.result code c.cell-cell.ensures c.code-code.ensures

  next : Ends sc (c.args.levels - 1) c.args.number c.args.s.now i state.passed.remaining tag start end found
  next = next_ends sc (c.args.levels - 1) c.args.number c.args.s.now c.args.out.now c.args.to fits i place out state c.requires.octets tag start end found (meaning_of code) means

  -- The number of the message that the field holds.
  abbrev inner : ℕ
  inner = code - 5

  message : 5 ≤ code → meaning_of code ≡ Message inner
  message h = sym (meaning.message code h)

  abbrev contents : List ℕ
  contents = take (end - start) (drop start c.args.s.now)

  inside : (h : 5 ≤ code) → (1 ≤ c.args.levels - 1) × Accepts sc (c.args.levels - 1) inner contents
  inside h = nested_accepts sc (c.args.levels - 1) c.args.number c.args.s.now c.args.out.now c.args.to fits i place out state c.requires.octets tag start end found (meaning_of code) means inner (message h)

  inner-fits : 5 ≤ code → place + 1 + length (shortest_within sc (c.args.levels - 1) inner contents) ≤ length out
  inner-fits h = nested_fits sc (c.args.levels - 1) c.args.number c.args.s.now c.args.out.now c.args.to fits i place out state c.requires.octets tag start end found (meaning_of code) means inner (message h)

  module _ (h : 5 ≤ code) (x : ℕ) (between : List ℕ) (put : Put out (place + 1) (shortest_within sc (c.args.levels - 1) inner contents) x between) where
    wraps : place + length (least_control (tag % 65536) (x - (place + 1))) + (x - (place + 1)) ≤ length between
    wraps = wrap_fits sc (c.args.levels - 1) c.args.number c.args.s.now c.args.out.now c.args.to fits i place out state c.requires.octets tag start end found (meaning_of code) means inner (message h) x between put

pub loop-t-init : goal.loop-t-init
loop-t-init t c =
    let a = c.args in
    let sc = indexed a.cells.now in
    begun sc (a.levels - 1) a.number a.s.now a.out.now a.to (accepts sc a.levels a.number a.s.now c.requires.accepts)

pub slice_bounds-put_value-count : goal.slice_bounds-put_value-count
slice_bounds-put_value-count t c = let h = next t (goal.at.slice_bounds-put_value-count t c).After-code-code in omega arith

pub slice_bounds-put_value-start : goal.slice_bounds-put_value-start
slice_bounds-put_value-start t c = let h = next t (goal.at.slice_bounds-put_value-start t c).After-code-code in omega arith

pub slice_bounds-put_value-end : goal.slice_bounds-put_value-end
slice_bounds-put_value-end t c = let h = next t (goal.at.slice_bounds-put_value-end t c).After-code-code in omega arith

pub put_value-place-requires-clause-contents : goal.put_value-place-requires-clause-contents
put_value-place-requires-clause-contents t c =
    let a = c.args in
    let l = c.loop-t in
    let p = c.in-Some.field-0 in
    let k = c.code-code.result in
    let f = (goal.at.put_value-place-requires-clause-contents t c).After-code-code in
    next_contents (indexed a.cells.now) (a.levels - 1) a.number a.s.now a.out.now a.to (fits t f) l.i l.place l.out l.invariant c.requires.octets p.tag p.start p.end (found t f) (meaning_of k) (means t f) (plain_code k c.if-code-lt5.true)

pub put_value-place-requires-clause-s_in_bounds : goal.put_value-place-requires-clause-s_in_bounds
put_value-place-requires-clause-s_in_bounds t c =
    let a = c.args in
    let l = c.loop-t in
    let p = c.in-Some.field-0 in
    let k = c.code-code.result in
    let f = (goal.at.put_value-place-requires-clause-s_in_bounds t c).After-code-code in
    leaf_fits (indexed a.cells.now) (a.levels - 1) a.number a.s.now a.out.now a.to (fits t f) l.i l.place l.out l.invariant c.requires.octets p.tag p.start p.end (found t f) (meaning_of k) (means t f) (plain_code k c.if-code-lt5.true)

pub loop-t-smaller-then-code-lt5 : goal.loop-t-smaller-then-code-lt5
loop-t-smaller-then-code-lt5 t c = let h = next t (goal.at.loop-t-smaller-then-code-lt5 t c).After-code-code in omega arith

pub loop-t-preserved-then-code-lt5 : goal.loop-t-preserved-then-code-lt5
loop-t-preserved-then-code-lt5 t c =
    let a = c.args in
    let l = c.loop-t in
    let p = c.in-Some.field-0 in
    let k = c.code-code.result in
    let f = (goal.at.loop-t-preserved-then-code-lt5 t c).After-code-code in
    leaf_written (indexed a.cells.now) (a.levels - 1) a.number a.s.now a.out.now a.to (fits t f) l.i l.place l.out l.invariant c.requires.octets p.tag p.start p.end (found t f) (meaning_of k) (means t f)
    c.put_value-place.result c.put_value-place.new.out (plain_code k c.if-code-lt5.true) c.put_value-place.ensures

pub overflow_sub-levels : goal.overflow_sub-levels
overflow_sub-levels t c = let h = (inside t (goal.at.overflow_sub-levels t c).After-code-code c.if-code-lt5.false).0 in omega arith

pub slice_bounds-write-count : goal.slice_bounds-write-count
slice_bounds-write-count t c = let h = next t (goal.at.slice_bounds-write-count t c).After-code-code in omega arith

pub slice_bounds-write-start : goal.slice_bounds-write-start
slice_bounds-write-start t c = let h = next t (goal.at.slice_bounds-write-start t c).After-code-code in omega arith

pub slice_bounds-write-end : goal.slice_bounds-write-end
slice_bounds-write-end t c = let h = next t (goal.at.slice_bounds-write-end t c).After-code-code in omega arith

-- There is room for the octet before the nested message.
pub overflow_add-place : goal.overflow_add-place
overflow_add-place t c =
    let a = c.args in
    let l = c.loop-t in
    let k = inner-fits t (goal.at.overflow_add-place t c).After-code-code c.if-code-lt5.false in
    let m = same_length (indexed a.cells.now) (a.levels - 1) a.number a.s.now a.out.now a.to l.i l.place l.out l.invariant in
    omega arith

pub write-after-requires : goal.write-after-requires
write-after-requires t c =
    let f = (goal.at.write-after-requires t c).After-code-code in
    let l = c.if-code-lt5.false in
    let h = inside t f l in
    let k = h.0 in
    let p = c.decreases in
    let start = c.in-Some.field-0.start in
    (omega arith, (octets_part (c.in-Some.field-0.end - start) start c.args.s.now c.requires.octets, (h.1, inner-fits t f l)))

pub wrap-place-requires : goal.wrap-place-requires
wrap-place-requires t c =
    let w = c.write-after in
    wraps t (goal.at.wrap-place-requires t c).After-code-code c.if-code-lt5.false w.result w.new.out w.ensures

pub loop-t-smaller : goal.loop-t-smaller
loop-t-smaller t c = let h = next t (goal.at.loop-t-smaller t c).After-code-code in omega arith

pub loop-t-preserved : goal.loop-t-preserved
loop-t-preserved t c =
    let a = c.args in
    let l = c.loop-t in
    let p = c.in-Some.field-0 in
    let k = c.code-code.result in
    let w = c.write-after in
    let f = (goal.at.loop-t-preserved t c).After-code-code in
    nested_written (indexed a.cells.now) (a.levels - 1) a.number a.s.now a.out.now a.to (fits t f) l.i l.place l.out l.invariant c.requires.octets p.tag p.start p.end (found t f) (meaning_of k) (means t f) (k - 5) (message t f c.if-code-lt5.false)
    w.result w.new.out w.ensures c.wrap-place.result c.wrap-place.new.out c.wrap-place.ensures.value c.wrap-place.ensures.out_after

pub returns : goal.returns
returns t c =
    let a = c.args in
    let sc = indexed a.cells.now in
    let l = c.loop-t in
    subst (λ (r : ℕ). Put a.out.now a.to (shortest_within sc r a.number a.s.now) l.place l.out) (levels-is sc a.levels a.number a.s.now c.requires.accepts)
    (ended sc (a.levels - 1) a.number a.s.now a.out.now a.to l.i l.place l.out l.invariant
    (head_at l.i (drop l.i a.s.now)) refl c.in_default.ensures)
