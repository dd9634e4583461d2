-- `tib_rv_field::count_allowed` meets its contract.
use borrow.Author.Tests.{le-leb, lt-leb, eq-eqb, ne_eqb}
use Rattle.tib_rv_field.specs.Reading.{count_allowed}
use Rattle.tib_rv_field.proofs.count_allowed.Goals as goal

pub returns-then-k-own : goal.returns-then-k-own
unfolding count_allowed
returns-then-k-own c = rw (← c.own.ensures, lt-leb _ c.args.k c.if-k-own.true)

pub returns-then-c-eq1 : goal.returns-then-c-eq1
unfolding count_allowed
returns-then-c-eq1 c = rw (← c.own.ensures, le-leb _ c.args.k c.if-k-own.false, eq-eqb _ 1 c.if-c-eq1.true)

pub returns : goal.returns
unfolding count_allowed
returns c = rw (← c.own.ensures, le-leb _ c.args.k c.if-k-own.false, ne_eqb _ 1 c.if-c-eq1.false)
