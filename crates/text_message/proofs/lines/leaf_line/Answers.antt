-- `text_message::lines::leaf_line` meets its contract.
use Rattle.std.proofs.Common.{◌∙◌}
use Rattle.message.specs.Tree.{value}
use Rattle.text_window.specs.Ascii.{ascii}
use Rattle.text_message.specs.Text.{kind_name, line_start, line}
use Rattle.text_message.specs.internal.OfTree.{depth_and_tag}
use Rattle.text_message.proofs.Values.{name_is}
use Rattle.text_window.proofs.Prints.{and_then, same}
use Rattle.text_message.proofs.lines.leaf_line.Goals as goal

pub returns : goal.returns
unfolding line line_start depth_and_tag ascii
returns c =
    let a = c.args in
    let name = same (kind_name (value a.kind a.s.now)) (c.kind_name.ensures ∙ name_is a.kind a.s.now) c.octets.ensures in
    and_then (and_then (and_then (and_then c.depth_and_tag.ensures name) c.put.ensures) c.value.ensures) c.put-2.ensures
