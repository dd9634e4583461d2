-- `tib_rv::sizes_at` meets its contract.
use native.Mathlib.Omega.{arith}
use mathlib.Core.Path.{refl}
use Rattle.tib_rv.proofs.GoodFields.{size_inside, count_there, count_enough, holder_read, leaf_read}
use Rattle.tib_rv.proofs.sizes_at.Goals as goal

pub bounds-s-0 : goal.bounds-s-0
bounds-s-0 c = let a = c in let h = size_inside a.args.s.now a.requires _ refl in omega arith

pub overflow_add-at : goal.overflow_add-at
overflow_add-at c =
    let w = c in
    let a = w in
    let s = a.args.s.now in
    let n = w.from-n in
    let h = size_inside s a.requires n.result n.ensures in
    omega arith

pub bounds-s-at : goal.bounds-s-at
bounds-s-at c =
    let w = c in
    let a = w in
    let s = a.args.s.now in
    let n = w.from-n in
    let h = size_inside s a.requires n.result n.ensures in
    omega arith

pub overflow_add-size : goal.overflow_add-size
overflow_add-size c =
    let w = c in
    let a = w in
    let s = a.args.s.now in
    let n = w.from-n in
    let h = size_inside s a.requires n.result n.ensures in
    omega arith

pub bounds-s-size : goal.bounds-s-size
bounds-s-size c =
    let w = c in
    let a = w in
    let s = a.args.s.now in
    let n = w.from-n in
    size_inside s a.requires n.result n.ensures

pub overflow_add-rest : goal.overflow_add-rest
overflow_add-rest c =
    let w = c in
    let a = w in
    let s = a.args.s.now in
    let n = w.from-n in
    let h = size_inside s a.requires n.result n.ensures in
    omega arith

pub slice_bounds-count_of-count : goal.slice_bounds-count_of-count
slice_bounds-count_of-count c =
    let w = c in
    let a = w in
    let s = a.args.s.now in
    let n = w.from-n in
    let h = size_inside s a.requires n.result n.ensures in
    omega arith

pub slice_bounds-count_of-start : goal.slice_bounds-count_of-start
slice_bounds-count_of-start c =
    let w = c in
    let a = w in
    let s = a.args.s.now in
    let n = w.from-n in
    let h = size_inside s a.requires n.result n.ensures in
    omega arith

pub count_of-k-requires : goal.count_of-k-requires
count_of-k-requires c =
    let v = c in
    let w = v in
    let a = w in
    let s = a.args.s.now in
    let n = w.from-n in
    count_there s a.requires n.result n.ensures _ v.from-m.result refl v.from-m.ensures

pub returns-then-c-eq1 : goal.returns-then-c-eq1
returns-then-c-eq1 c =
    let k = c in
    let v = k in
    let w = v in
    let a = w in
    let s = a.args.s.now in
    let n = w.from-n in
    holder_read s a.requires n.result n.ensures _ v.from-m.result refl v.from-m.ensures k.count_of-k.result k.count_of-k.ensures c.if-c-eq1.true

pub overflow_sub-result : goal.overflow_sub-result
overflow_sub-result c =
    let k = c in
    let v = k in
    let w = v in
    let a = w in
    let s = a.args.s.now in
    let n = w.from-n in
    let h = count_enough s a.requires n.result n.ensures _ v.from-m.result refl v.from-m.ensures k.count_of-k.result k.count_of-k.ensures in
    let e = c.own.ensures in
    omega arith

pub returns : goal.returns
returns c =
    let f = c in
    let k = f in
    let v = k in
    let w = v in
    let a = w in
    let s = a.args.s.now in
    let n = w.from-n in
    leaf_read s a.requires n.result n.ensures _ v.from-m.result refl v.from-m.ensures k.count_of-k.result k.count_of-k.ensures f.if-c-eq1.false f.following.result c.own.result f.following.ensures.value c.own.ensures
