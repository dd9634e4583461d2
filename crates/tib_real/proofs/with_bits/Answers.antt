-- `tib_real::with_bits` meets its contract.
use Rattle.tib_real.specs.FromOctets.{with_bits}
use Rattle.tib_real.proofs.with_bits.Goals as goal

pub returns : goal.returns
unfolding with_bits
returns c = rw c.value.ensures
