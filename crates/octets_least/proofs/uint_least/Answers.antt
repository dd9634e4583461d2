-- `octets_least::uint_least` meets its contract.
use Rattle.octets.specs.internal.Least.{uint_width_bits}
use Rattle.octets_least.proofs.uint_least.Goals as goal

pub returns : goal.returns
unfolding uint_width_bits
returns c = rw c.width.ensures
