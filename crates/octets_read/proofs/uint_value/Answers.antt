-- `octets_read::uint_value` meets its contract.
use borrow.Author.Tests.{le-leb, lt-leb}
use lib.ListN.{length}
use Rattle.octets.specs.internal.Bounded.{unsigned}
use Rattle.octets_read.proofs.uint_value.Goals as goal

pub returns-then-s-le8 : goal.returns-then-s-le8
unfolding unsigned
returns-then-s-le8 c = rw (le-leb (length c.args.s.now) 8 c.if-s-le8.true, c.big_endian.ensures)

pub returns-else-s-le8 : goal.returns-else-s-le8
unfolding unsigned
returns-else-s-le8 c = rw (lt-leb (length c.args.s.now) 8 c.if-s-le8.false)
