-- `store_number` meets its contract: the control part, then the octets of the number.
use mathlib.Core.Path.{refl, sym, ◌∙◌}
use Rattle.octets.specs.Number.{octets_of}
use Rattle.octets.proofs.Number.{length_octets_of}
use Rattle.writer_put.proofs.Before.{field_before}
use Rattle.writer_put.proofs.store_number.Goals as goal

pub returns : goal.returns
returns c =
    let a = c.args in
    let w = a.least.width in
    let s = c.store_control-at in
    field_before a.out.now a.start a.tag w s.result.0 s.result.1 (octets_of w a.least.bits) c.put_number.new.out
    (sym (length_octets_of w a.least.bits)) s.ensures.place s.ensures.contents c.requires.width_bound c.requires.start_in_bounds
    (c.put_number.ensures ∙ rw s.ensures.out_after refl)
