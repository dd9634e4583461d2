-- `wrap` moves the octets only where the control part takes more than one.
use native.Mathlib.Omega.{arith}
use mathlib.Core.Path.{◌∙◌}
use Rattle.message_calls.proofs.FieldStores.{control_some, direct_wrapped}
use Rattle.message_calls.proofs.shortest.wrap.Goals as goal

pub bounds-out-to : goal.bounds-out-to
bounds-out-to c =
    let s = c in
    let h = s.requires in
    let e = control_some s.args.tag s.args.n in
    omega arith

pub returns-then-n-lt12 : goal.returns-then-n-lt12
returns-then-n-lt12 c =
    let s = c in
    let all = direct_wrapped s.args.out.now s.args.to s.args.tag s.args.n c.if-tag-lt14.true (c.if-n-lt12.true) s.requires in
    record { value = all.0; out_after = rw c.one_octet.ensures all.1 }

pub overflow_sub-size : goal.overflow_sub-size
overflow_sub-size c =
    let s = c in
    let e = c.control_size-size.ensures in
    let o = control_some s.args.tag s.args.n in
    omega arith

pub returns : goal.returns
returns c =
    let k = c in
    let e = k.control_size-size.ensures in
    let w = c.put_wide_control.ensures in record { value = rw w.place; out_after = w.buffer ∙ rw (c.move_up.ensures, e) }
