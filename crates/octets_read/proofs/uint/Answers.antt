-- `octets_read::uint` meets its contract.
use mathlib.Core.Path.{sym}
use Rattle.octets.specs.internal.Least.{uint_width_bits}
use Rattle.octets.proofs.Number.{octets_of_slice}
use Rattle.octets.proofs.Short.{short_uint_lem}
use Rattle.octets_read.proofs.uint.Goals as goal

pub returns : goal.returns
unfolding uint_width_bits
returns c =
    let k = c in
    let s = k.args.s.now in
    let v = c.uint_value-value.ensures in record { value_value = v; shortest_value = rw (c.uint_least.ensures, v) (sym (short_uint_lem s (octets_of_slice s (λ i. (k.type_inv.s i).fits)))) }
