-- `put_wide_control` stores a control part whose length stands in its first octet with no loop.
use native.Mathlib.Omega.{arith}
use mathlib.Core.Path.{ap}
use lib.ListN.{length, length-set}
use Rattle.message_calls.proofs.FieldStores.{control_one, control_two, one_put, two_put}
use Rattle.message_calls.proofs.shortest.put_wide_control.Goals as goal

pub overflow_add-out : goal.overflow_add-out
overflow_add-out c =
    let h = c.if-n-ge12.false in
    omega arith

pub bounds-out-to : goal.bounds-out-to
bounds-out-to c =
    let s = c in
    let h = s.requires in
    let e = ap length (control_one s.args.tag s.args.n c.if-tag-lt14.false c.if-tag-lt256.true (c.if-n-ge12.false)) in
    omega arith

pub bounds-out-to-then-tag-lt256 : goal.bounds-out-to-then-tag-lt256
bounds-out-to-then-tag-lt256 c =
    let s = c in
    let h = s.requires in
    let e = ap length (control_one s.args.tag s.args.n c.if-tag-lt14.false c.if-tag-lt256.true (c.if-n-ge12.false)) in
    simp length-set (omega arith)

pub returns-then-tag-lt256 : goal.returns-then-tag-lt256
returns-then-tag-lt256 c =
    let s = c in
    one_put s.args.out.now s.args.to s.args.tag s.args.n c.if-tag-lt14.false c.if-tag-lt256.true (c.if-n-ge12.false) s.requires

pub overflow_add-out-2 : goal.overflow_add-out-2
overflow_add-out-2 c =
    let h = c.if-n-ge12.false in
    omega arith

pub bounds-out-to-2 : goal.bounds-out-to-2
bounds-out-to-2 c =
    let s = c in
    let h = s.requires in
    let k = s.ranges.tag in
    let e = ap length (control_two s.args.tag s.args.n c.if-tag-lt256.false (omega arith) (c.if-n-ge12.false)) in
    omega arith

pub bounds-out-to-3 : goal.bounds-out-to-3
bounds-out-to-3 c =
    let s = c in
    let h = s.requires in
    let k = s.ranges.tag in
    let e = ap length (control_two s.args.tag s.args.n c.if-tag-lt256.false (omega arith) (c.if-n-ge12.false)) in
    simp length-set (omega arith)

pub bounds-out-to-4 : goal.bounds-out-to-4
bounds-out-to-4 c =
    let s = c in
    let h = s.requires in
    let k = s.ranges.tag in
    let e = ap length (control_two s.args.tag s.args.n c.if-tag-lt256.false (omega arith) (c.if-n-ge12.false)) in
    simp length-set (omega arith)

pub returns : goal.returns
returns c =
    let s = c in
    let k = s.ranges.tag in
    two_put s.args.out.now s.args.to s.args.tag s.args.n c.if-tag-lt256.false (omega arith) (c.if-n-ge12.false) s.requires
