-- `octets_read::int` meets its contract.
use mathlib.Core.Path.{sym, ◌∙◌}
use mir.Syntax.{w64}
use mir.ValLaws.{to_z-of_z}
use Rattle.octets.specs.internal.Least.{int_width_bits}
use Rattle.octets.proofs.Number.{octets_of_slice}
use Rattle.octets.proofs.LeadingZeros.{signed_zigzag}
use Rattle.octets.proofs.Short.{short_int_lem}
use Rattle.octets_read.proofs.int.Goals as goal

pub returns : goal.returns
unfolding int_width_bits
returns c =
    let k = c in
    let s = k.args.s.now in
    let a = c.int_value-value in
    let v = to_z-of_z w64 a.result (record { sfits = a.type_inv }) ∙ a.ensures in record { value_value = v; shortest_value = rw (c.int_least.ensures, v, signed_zigzag) (sym (short_int_lem s (octets_of_slice s (λ i. (k.type_inv.s i).fits)))) }
