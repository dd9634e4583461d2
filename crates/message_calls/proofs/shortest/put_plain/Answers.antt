use Prim.Native.Nat.{◌+◌}
use native.Mathlib.Omega.{arith}
use mathlib.Core.Path.{refl}
use lib.ListN.{length}
use Rattle.message.proofs.Fields.{field_length}
use Rattle.message_calls.proofs.FieldStores.{field_put}
use Rattle.message_calls.proofs.shortest.put_plain.Goals as goal

pub put_least_control-a-requires : goal.put_least_control-a-requires
put_least_control-a-requires c =
    let s = c in
    let h = s.requires in
    let l = field_length s.args.tag s.args.s.now in
    omega arith

pub overflow_add-result : goal.overflow_add-result
overflow_add-result c =
    let k = c in
    let s = k in
    let h = s.requires in
    let g = s.well_formed in
    let l = field_length s.args.tag s.args.s.now in
    let p = k.put_least_control-a.ensures.place in
    omega arith

pub returns : goal.returns
returns c =
    let k = c in
    let s = k in
    let x = s.args.s.now in
    field_put s.args.out.now s.args.to s.args.tag (length x) x k.put_least_control-a.result (k.put_least_control-a.result + length x)
    k.put_least_control-a.new.out c.put_octets.new.out refl s.requires k.put_least_control-a.ensures (record { place = refl; buffer = c.put_octets.ensures })
