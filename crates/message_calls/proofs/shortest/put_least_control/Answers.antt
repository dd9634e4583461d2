-- `put_least_control` stores one octet for a small tag and a small length, else calls `put_wide_control`.
use native.Mathlib.Omega.{arith}
use Rattle.message_calls.proofs.FieldStores.{control_some, direct_put}
use Rattle.message_calls.proofs.shortest.put_least_control.Goals as goal

pub bounds-out-to : goal.bounds-out-to
bounds-out-to c =
    let s = c in
    let h = s.requires in
    let e = control_some s.args.tag s.args.n in
    omega arith

pub returns-then-n-lt12 : goal.returns-then-n-lt12
returns-then-n-lt12 c =
    let s = c in
    rw c.one_octet.ensures
    (direct_put s.args.out.now s.args.to s.args.tag s.args.n c.if-tag-lt14.true (c.if-n-lt12.true) s.requires)
