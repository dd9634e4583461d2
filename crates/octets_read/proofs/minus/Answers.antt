-- `octets_read::minus` meets its contract.
use Rattle.octets_read.proofs.Signs.{minus_fits, minus_is}
use Rattle.octets_read.proofs.minus.Goals as goal

pub overflow_sub-result : goal.overflow_sub-result
overflow_sub-result c = minus_fits c.args.k c.requires.0 c.requires.1

pub returns : goal.returns
returns c = minus_is c.args.k c.requires.0 c.requires.1
