-- `tib_field::uint` meets its contract.
use Rattle.tib_field.proofs.Numbers.{one_octet}
use Rattle.tib_field.proofs.uint.Goals as goal

pub returns-then-s-eq1 : goal.returns-then-s-eq1
returns-then-s-eq1 c = one_octet _ _ c.if-s-eq1.true c.from.ensures
