-- `octets_read::control_after` meets its contract.
use mathlib.Core.Path.{◌∙◌}
use Rattle.octets.proofs.Number.{octets_of_slice}
use Rattle.octets_read.proofs.Leads.{read_octet, nybbles}
use Rattle.octets_read.proofs.Shortness.{short_octet}
use Rattle.octets_read.proofs.control_after.Goals as goal

pub after_leads-requires : goal.after_leads-requires
after_leads-requires c =
    let b = c in
    nybbles b.args.c _ _ b.ranges.c.fits c.from.ensures c.from-2.ensures

pub returns : goal.returns
returns c =
    let k = c in
    let b = k in
    let s = b.args.s.now in
    let h = b.ranges.c.fits in
    let t = c.from.ensures in
    let l = c.from-2.ensures in record {
      control_value = c.after_leads.ensures.control_value ∙ read_octet b.args.c _ _ s h t l;
      shortest_value = c.after_leads.ensures.shortest_value
          ∙ short_octet b.args.c _ _ s h (octets_of_slice s (λ i. (k.type_inv.s i).fits)) t l;
    }
