-- `octets_put::put_number` meets its contract.
use Prim.Native.Nat.{◌+◌, ◌≤◌}
use lib.ListN.{length}
use Rattle.octets_store.proofs.Room.{room, no_room_lem}
use Rattle.octets_put.proofs.Digits.{number_too_long}
use Rattle.octets_put.proofs.put_number.Goals as goal
use Rattle.octets_put.proofs.put_number.Goals.{Then-has_room}

-- the octets fit
fits : (c : Then-has_room)
    → c.args.at + c.args.width ≤ length c.args.out.now
fits c = room _ _ _ _ c.has_room.ensures c.if-has_room.true

pub put_big_endian-requires : goal.put_big_endian-requires
put_big_endian-requires c = fits (goal.at.put_big_endian-requires c).Then-has_room

pub returns-else-has_room : goal.returns-else-has_room
returns-else-has_room c =
    let a = c.args in
    number_too_long a.out.now a.at a.width a.v (no_room_lem _ _ _ _ c.has_room.ensures c.if-has_room.false)
