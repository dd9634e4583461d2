-- `tib_msg::first` meets its contract.
use Rattle.tib_msg.proofs.Shows.{first_none}
use Rattle.tib_msg.proofs.first.Goals as goal

pub returns-then-s-eq0 : goal.returns-then-s-eq0
returns-then-s-eq0 c = first_none c.args.s.now c.if-s-eq0.true
