-- `small_cell` tests what its definition tests.
use native.Mathlib.Omega.{arith}
use mathlib.Core.Path.{ap, ◌∙◌}
use Rattle.std.specs.Prelude.{Some}
use lib.Bits.{bit_and, mask_lt}
use lib.ListN.{get_or}
use Rattle.message_field.proofs.Nexts.{none_past, none_by_tag, none_by_length, none_by_end, cell_found}
use Rattle.message_calls.proofs.traversal.small_cell.Goals as goal
use Rattle.message_calls.proofs.traversal.small_cell.Goals.{then-c-ge224-via-then-c-ge224, then-c-ge224-via-else-c-ge224+then-n-ge12, then-c-ge224-via-else-c-ge224+else-n-ge12+then-s-i-2}

pub returns-then-s-i : goal.returns-then-s-i
returns-then-s-i c =
    let a = c.args in
    none_past a.cells.now a.number a.s.now a.i c.if-s-i.true

pub overflow_cast-n : goal.overflow_cast-n
overflow_cast-n c = let a = c.args in let h = mask_lt (get_or a.s.now a.i 0) 4 in omega arith

pub overflow_add-i-else-n-ge12 : goal.overflow_add-i-else-n-ge12
overflow_add-i-else-n-ge12 c =
    let e = c in
    let b = e in
    let h = b.requires in
    let k = e.if-s-i.false in
    let m = mask_lt (get_or b.args.s.now b.args.i 0) 4 in
    omega arith

pub returns-then-c-ge224 : goal.returns-then-c-ge224
returns-then-c-ge224 c =
    let a = c.args in
    let s = a.s.now in
    let h = c.if-s-i.false in
    let n = bit_and (get_or s a.i 0) 15 in
    elim c.then-c-ge224.branch [
      | then-c-ge224-via-then-c-ge224 w ↦ none_by_tag a.cells.now a.number s a.i h w.if-c-ge224.true
      | then-c-ge224-via-else-c-ge224+then-n-ge12 w ↦ none_by_length a.cells.now a.number s a.i h w.if-c-ge224.false w.if-n-ge12.true
      | then-c-ge224-via-else-c-ge224+else-n-ge12+then-s-i-2 w ↦
          none_by_end a.cells.now a.number s a.i h w.if-c-ge224.false w.if-n-ge12.false w.if-s-i-2.true
    ]

pub returns : goal.returns
returns c =
    let k = c in
    let b = k in
    let a = b.args in
    let s = a.s.now in
    let n = bit_and (get_or s a.i 0) 15 in
    ap Some c.cell.ensures
    ∙ cell_found a.cells.now a.number s a.i b.if-s-i.false k.if-c-ge224.false (k.if-n-ge12.false) (k.if-s-i-2.false)
