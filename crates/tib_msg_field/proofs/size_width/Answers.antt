-- `tib_msg_field::size_width` meets its contract.
use lib.Bits.{and_mask}
use Prim.Native.Nat.{◌/◌}
use borrow.Author.Tests.{eq-eqb, ne_eqb}
use Rattle.tib_msg_field.specs.Layout.{size_width}
use Rattle.tib_msg_field.proofs.size_width.Goals as goal

pub returns-then-c-eq1 : goal.returns-then-c-eq1
unfolding size_width
returns-then-c-eq1 c = rw (← and_mask (c.args.c / 128) 1, eq-eqb _ 1 c.if-c-eq1.true)

pub returns-else-c-eq1 : goal.returns-else-c-eq1
unfolding size_width
returns-else-c-eq1 c = rw (← and_mask (c.args.c / 128) 1, ne_eqb _ 1 c.if-c-eq1.false)
