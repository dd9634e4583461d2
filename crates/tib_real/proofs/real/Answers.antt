-- `tib_real::real` meets its contract.
use Rattle.std.proofs.Common.{◌∙◌}
use Rattle.octets.proofs.Number.{octets_of_slice}
use Rattle.tib_real.proofs.Octets.{four_octets_lem, of_eight, of_four, of_others}
use Rattle.tib_real.proofs.real.Goals as goal

pub returns-then-n-eq8 : goal.returns-then-n-eq8
returns-then-n-eq8 c =
    let a = c.args in
    c.with_bits.ensures ∙ rw c.uint.ensures.value_value (of_eight a.s.now a.hint a.hinted c.if-n-eq8.true)

pub widen-requires : goal.widen-requires
widen-requires c =
    let k = c in
    let s = k.args.s.now in
    rw c.uint-then-n-eq4.ensures.value_value (four_octets_lem s (octets_of_slice s (λ i. (k.type_inv.s i).fits)) c.if-n-eq4.true)

pub returns-then-n-eq4 : goal.returns-then-n-eq4
returns-then-n-eq4 c =
    let a = c.args in
    c.with_bits-then-n-eq4.ensures
    ∙ rw (c.widen.ensures, c.uint-then-n-eq4.ensures.value_value) (of_four a.s.now a.hint a.hinted c.if-n-eq4.true)

pub returns : goal.returns
returns c =
    let a = c.args in
    c.with_bits-2.ensures ∙ of_others a.s.now a.hint a.hinted c.if-n-eq8.false c.if-n-eq4.false
