-- `octets_put::put_control` meets its contract.
use Prim.Native.Nat.{◌+◌, ◌≤◌}
use native.Mathlib.Omega.{arith}
use mathlib.Core.Path.{sym, ◌∙◌}
use lib.ListN.{length, length-set}
use Rattle.octets.specs.Control.{least_control}
use Rattle.octets_store.proofs.Room.{room, no_room_lem}
use Rattle.octets_store.proofs.Stores.{stored_too_long}
use Rattle.octets_put.proofs.Least.{least_control_size, control_stored}
use Rattle.octets_put.proofs.put_control.Goals as goal
use Rattle.octets_put.proofs.put_control.Goals.{Then-has_room}

-- the whole control part fits
whole : (c : Then-has_room)
    → c.args.at
    + length (least_control c.args.tag c.args.length)
    ≤ length c.args.out.now
whole c =
    let a = c.args in
    rw c.control_size-size.ensures at
    (room c.has_room.result a.at c.control_size-size.result (length a.out.now) c.has_room.ensures c.if-has_room.true)

-- and so do its parts
parts : (c : Then-has_room)
    → c.args.at + (1 + c.control_least-c.result.tag_width)
    ≤ length c.args.out.now
parts c =
    let a = c.args in
    let n = least_control_size a.tag a.length c.control_least-c.result c.control_least-c.ensures in
    let w = whole c in
    omega arith

pub bounds-out-at : goal.bounds-out-at
bounds-out-at c = omega (arith, parts (goal.at.bounds-out-at c).Then-has_room)

pub overflow_add-at : goal.overflow_add-at
overflow_add-at c = omega (arith, parts (goal.at.overflow_add-at c).Then-has_room)

pub overflow_add-after : goal.overflow_add-after
overflow_add-after c = omega (arith, parts (goal.at.overflow_add-after c).Then-has_room)

pub overflow_add-after-then-has_room : goal.overflow_add-after-then-has_room
overflow_add-after-then-has_room c = omega (arith, parts (goal.at.overflow_add-after-then-has_room c).Then-has_room)

pub shape_of-out : goal.shape_of-out
shape_of-out c =
    let k = c in
    c.put_number-then-has_room.auto.out ∙ k.put_number.auto.out ∙ simp length-set

pub returns-then-has_room : goal.returns-then-has_room
returns-then-has_room c =
    let k = c in
    let b = k in
    let l = b.control_least-c in
    let a = b.args in
    c.put_number-then-has_room.ensures
    ∙ rw k.put_number.ensures (control_stored a.tag a.length l.result l.ensures a.out.now a.at (whole (goal.at.returns-then-has_room c).Then-has_room))

pub returns-else-has_room : goal.returns-else-has_room
returns-else-has_room c =
    let a = c.args in
    sym
    (stored_too_long a.out.now a.at (least_control a.tag a.length)
    (rw c.control_size-size.ensures at
    (no_room_lem c.has_room.result a.at c.control_size-size.result (length a.out.now) c.has_room.ensures c.if-has_room.false)))
