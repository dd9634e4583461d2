-- `control` reads a control part of one octet from its nybbles, and any other as crate octets_read does.
use native.Mathlib.Omega.{arith}
use mathlib.Core.Path.{refl, ◌∙◌}
use Rattle.octets_read.proofs.Leads.{read_octet, whole_direct}
use Rattle.message_calls.proofs.shortest.control.Goals as goal

pub returns-then-c-lt12 : goal.returns-then-c-lt12
returns-then-c-lt12 c =
    let b = c in
    let x = b.args.c in
    let h = c.if-c-lt224.true in
    whole_direct _ _ b.args.s.now (omega arith) (c.if-c-lt12.true) ∙ read_octet x _ _ b.args.s.now b.ranges.c.fits refl refl
