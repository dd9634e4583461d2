-- `store_plain` meets its contract: the control part, then the contents.
use mathlib.Core.Path.{refl, ◌∙◌}
use lib.ListN.{length}
use Rattle.writer_put.proofs.Before.{field_before}
use Rattle.writer_put.proofs.store_plain.Goals as goal

pub returns : goal.returns
returns c =
    let a = c.args in
    let s = c.store_control-at in
    field_before a.out.now a.start a.tag (length a.xs.now) s.result.0 s.result.1 a.xs.now c.put_octets.new.out refl s.ensures.place s.ensures.contents
    c.requires.xs_bound c.requires.start_in_bounds (c.put_octets.ensures ∙ rw s.ensures.out_after refl)
