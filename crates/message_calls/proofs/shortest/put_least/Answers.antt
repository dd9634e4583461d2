use native.Mathlib.Omega.{arith}
use mathlib.Core.Path.{sym, ap, ◌∙◌}
use lib.ListN.{length}
use Rattle.octets.specs.Number.{octets_of}
use Rattle.octets.specs.Control.{least_control}
use Rattle.octets.proofs.Number.{length_octets_of}
use Rattle.octets_store.proofs.Stores.{length_stored}
use Rattle.message_calls.proofs.FieldStores.{number_length, field_put}
use Rattle.message_calls.proofs.shortest.put_least.Goals as goal

pub put_least_control-a-requires : goal.put_least_control-a-requires
put_least_control-a-requires c =
    let s = c in
    let h = s.requires in
    let l = number_length s.args.tag s.args.least.width s.args.least.bits in
    omega arith

pub put_digits-requires : goal.put_digits-requires
put_digits-requires c =
    let k = c in
    let s = k in
    let h = s.requires in
    let l = number_length s.args.tag s.args.least.width s.args.least.bits in
    let o = length_octets_of s.args.least.width s.args.least.bits in
    let p = k.put_least_control-a.ensures.place in
    let e = ap length k.put_least_control-a.ensures.buffer ∙ length_stored s.args.out.now s.args.to (least_control s.args.tag s.args.least.width) in
    omega arith

pub returns : goal.returns
returns c =
    let k = c in
    let s = k in
    let w = s.args.least.width in
    field_put s.args.out.now s.args.to s.args.tag w (octets_of w s.args.least.bits) k.put_least_control-a.result c.put_digits.result
    k.put_least_control-a.new.out c.put_digits.new.out (sym (length_octets_of w s.args.least.bits)) s.requires k.put_least_control-a.ensures c.put_digits.ensures
