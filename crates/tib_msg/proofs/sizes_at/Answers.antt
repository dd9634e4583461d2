-- `tib_msg::sizes_at` meets its contract.
use native.Mathlib.Omega.{arith}
use mathlib.Core.Path.{refl}
use Rattle.tib_msg.proofs.GoodFields.{type_inside, size_inside, data_inside, hint_there, all_read}
use Rattle.tib_msg.proofs.sizes_at.Goals as goal

pub bounds-s-0 : goal.bounds-s-0
bounds-s-0 c = let a = c in let h = type_inside a.args.s.now a.requires _ refl in omega arith

pub overflow_add-at : goal.overflow_add-at
overflow_add-at c =
    let w = c in
    let a = w in
    let s = a.args.s.now in
    let n = w.from-n in
    let h = type_inside s a.requires n.result n.ensures in
    omega arith

pub bounds-s-at : goal.bounds-s-at
bounds-s-at c =
    let w = c in
    let a = w in
    let s = a.args.s.now in
    let n = w.from-n in
    type_inside s a.requires n.result n.ensures

pub overflow_add-start : goal.overflow_add-start
overflow_add-start c =
    let w = c in
    let a = w in
    let s = a.args.s.now in
    let n = w.from-n in
    let h = type_inside s a.requires n.result n.ensures in
    omega arith

pub overflow_add-end : goal.overflow_add-end
overflow_add-end c =
    let w = c in
    let a = w in
    let s = a.args.s.now in
    let n = w.from-n in
    let h = size_inside s a.requires n.result n.ensures _ refl c.size_width-w.result c.size_width-w.ensures in
    omega arith

pub slice_bounds-uint-end : goal.slice_bounds-uint-end
slice_bounds-uint-end c =
    let w = c in
    let a = w in
    let s = a.args.s.now in
    let n = w.from-n in
    size_inside s a.requires n.result n.ensures _ refl c.size_width-w.result c.size_width-w.ensures

pub overflow_add-hint : goal.overflow_add-hint
overflow_add-hint c =
    let v = c in
    let w = v in
    let a = w in
    let s = a.args.s.now in
    let n = w.from-n in
    let h = data_inside s a.requires n.result n.ensures _ refl v.size_width-w.result v.size_width-w.ensures c.uint-l.result c.uint-l.ensures in
    omega arith

pub slice_bounds-hint_octets-count : goal.slice_bounds-hint_octets-count
slice_bounds-hint_octets-count c =
    let v = c in
    let w = v in
    let a = w in
    let s = a.args.s.now in
    let n = w.from-n in
    data_inside s a.requires n.result n.ensures _ refl v.size_width-w.result v.size_width-w.ensures c.uint-l.result c.uint-l.ensures

pub slice_bounds-hint_octets-start : goal.slice_bounds-hint_octets-start
slice_bounds-hint_octets-start c =
    let v = c in
    let w = v in
    let a = w in
    let s = a.args.s.now in
    let n = w.from-n in
    data_inside s a.requires n.result n.ensures _ refl v.size_width-w.result v.size_width-w.ensures c.uint-l.result c.uint-l.ensures

pub hint_octets-requires : goal.hint_octets-requires
hint_octets-requires c =
    let u = c in
    let v = u in
    let w = v in
    let a = w in
    let s = a.args.s.now in
    let n = w.from-n in
    hint_there s a.requires n.result n.ensures _ refl v.size_width-w.result v.size_width-w.ensures u.uint-l.result u.uint-l.ensures

pub returns : goal.returns
returns c =
    let u = c in
    let v = u in
    let w = v in
    let a = w in
    let s = a.args.s.now in
    let n = w.from-n in
    all_read s a.requires n.result n.ensures _ refl v.size_width-w.result v.size_width-w.ensures u.uint-l.result u.uint-l.ensures c.hint_octets.result c.hint_octets.ensures
