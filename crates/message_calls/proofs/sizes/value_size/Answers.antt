use native.Mathlib.Omega.{arith}
use mathlib.Core.Path.{◌≡◌, sym, ◌∙◌}
use lib.ListN.{length}
use Rattle.octets.specs.Control.{least_control}
use Rattle.table_index.specs.internal.Cells.{meaning_of}
use Rattle.message.specs.Tree.{value}
use Rattle.message.specs.Shortest.{least_contents}
use Rattle.message.proofs.Fields.{field_length}
use Rattle.message_calls.proofs.MeasureLoop.{control_few, least_few}
use Rattle.message_calls.proofs.sizes.value_size.Goals as goal

pub overflow_add-result : goal.overflow_add-result
overflow_add-result c =
    let s = c in
    let e = c.control_size.ensures in
    let k = control_few s.args.tag c.least_size-n.result in
    let f = c.least_size-n.ensures in
    let l = least_few (meaning_of s.args.code) s.args.s.now s.requires.s_len_bound in
    omega arith

pub returns : goal.returns
returns c =
    let s = c in
    let f = c.least_size-n.ensures in
    let xs = least_contents (value (meaning_of s.args.code) s.args.s.now) in
    let e : c.control_size.result ≡ length (least_control s.args.tag (length xs)) = c.control_size.ensures ∙ rw f in
    sym (field_length s.args.tag xs ∙ rw (e, f))
