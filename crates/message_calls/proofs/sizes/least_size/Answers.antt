use mathlib.Core.Path.{sym, ap, ◌∙◌}
use lib.ListN.{length}
use Rattle.octets.proofs.Number.{length_octets_of}
use Rattle.message_calls.proofs.sizes.least_size.Goals as goal

pub returns-in-Some : goal.returns-in-Some
returns-in-Some c =
    let l = c.in-Some.l in
    sym (length_octets_of l.width l.bits) ∙ ap length (sym c.in-Some.ensures)
