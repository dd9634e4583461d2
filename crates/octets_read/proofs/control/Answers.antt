-- `octets_read::control` meets its contract.
use native.Mathlib.Omega.{arith}
use mathlib.Core.Path.{sym, ap, ◌∙◌}
use lib.Bits.{and_mask}
use lib.ListN.{get_or}
use Rattle.octets.specs.Control.{control}
use Rattle.octets.specs.Short.{short_control}
use Rattle.octets.proofs.Short.{short_direct}
use Rattle.octets_read.proofs.Leads.{control_none, octets_at, control_from, whole_direct}
use Rattle.octets_read.proofs.Shortness.{short_none}
use Rattle.octets_read.proofs.control.Goals as goal

pub returns-then-s-eq0 : goal.returns-then-s-eq0
returns-then-s-eq0 c = let s = c.args.s.now in record { control_value = control_none s c.if-s-eq0.true; shortest_value = short_none s c.if-s-eq0.true }

pub returns-then-l-lt12 : goal.returns-then-l-lt12
returns-then-l-lt12 c =
    let k = c in
    let s = k.args.s.now in
    let tag = c.if-t-lt14.true in
    let len = c.if-l-lt12.true in
    let t = c.from-t.ensures in
    let l = c.from-l.ensures in
    let m = and_mask (get_or s 0 0) 4 in record { control_value = whole_direct _ _ _ tag len ∙ control_from s 0 _ _ (omega arith) (omega arith) t l; shortest_value = sym (short_direct (get_or s 0 0) _ (omega arith) (omega arith)) ∙ ap short_control (octets_at s 0 (omega arith)) }

pub returns : goal.returns
returns c =
    let s = c.args.s.now in
    let e = octets_at s 0 (omega arith) in record { control_value = c.control_after.ensures.control_value ∙ ap control e; shortest_value = c.control_after.ensures.shortest_value ∙ ap short_control e }
