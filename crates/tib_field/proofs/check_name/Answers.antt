-- `tib_field::check_name` meets its contract.
use native.Mathlib.Omega.{arith}
use Rattle.tib_field.proofs.Zeros.{of_all}
use Rattle.tib_field.proofs.Names.{fault_of_none, fault_cut, fault_open, fault_early, fault_good}
use Rattle.tib_field.proofs.check_name.Goals as goal

pub returns-then-s-eq0 : goal.returns-then-s-eq0
returns-then-s-eq0 c = fault_of_none c.args.s.now c.if-s-eq0.true

pub returns-then-s-n : goal.returns-then-s-n
returns-then-s-n c =
    let w = c in
    fault_cut w.args.s.now w.from-n.result (omega arith) w.from-n.ensures c.if-s-n.true

pub returns-then-s-n-ne0 : goal.returns-then-s-n-ne0
returns-then-s-n-ne0 c =
    let f = c in
    let w = f in
    fault_open w.args.s.now w.from-n.result (omega arith) w.from-n.ensures f.if-s-n.false c.if-s-n-ne0.true

pub returns-then-zero_inside : goal.returns-then-zero_inside
returns-then-zero_inside c =
    let z = c in
    let f = z in
    let w = f in
    let s = w.args.s.now in
    fault_early s w.from-n.result (omega arith) w.from-n.ensures f.if-s-n.false
    z.zero_inside.result c.if-zero_inside.true (of_all z.zero_inside.result s _ z.zero_inside.ensures)

pub returns : goal.returns
returns c =
    let z = c in
    let f = z in
    let w = f in
    let s = w.args.s.now in
    fault_good s w.from-n.result (omega arith) w.from-n.ensures f.if-s-n.false
    z.if-s-n-ne0.false z.zero_inside.result c.if-zero_inside.false (of_all z.zero_inside.result s _ z.zero_inside.ensures)
