use native.Mathlib.Omega.{arith}
use mathlib.Core.Path.{sym}
use lib.ListN.{length}
use borrow.Author.Tests.{le-leb}
use Rattle.table_index.specs.internal.Cells.{indexed}
use Rattle.message_calls.specs.internal.Stores.{shortest_within}
use Rattle.message_calls.proofs.MeasureLoop.{short_few}
use Rattle.message_calls.proofs.sizes.has_room.Goals as goal

pub returns-then-message-len : goal.returns-then-message-len
returns-then-message-len c =
    let s = c in
    let es = indexed s.args.cells.now in
    let h = short_few es 8 s.args.number s.args.message.now s.requires.octets s.requires.accepts in
    let k = c.if-message-len.true in
    sym (le-leb (length (shortest_within es 8 s.args.number s.args.message.now)) s.args.len (omega arith))

pub returns : goal.returns
returns c = rw c.measure.ensures
