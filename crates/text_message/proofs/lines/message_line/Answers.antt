-- `text_message::lines::message_line` meets its contract.
use mathlib.Core.Path.{sym, ap}
use mathlib.Core.List.{append_assoc}
use Rattle.table_index.specs.internal.Cells.{indexed}
use Rattle.text_window.specs.Ascii.{ascii}
use Rattle.text_window.specs.Digits.{decimal}
use Rattle.text_message.specs.Text.{line_start, line}
use Rattle.text_message.specs.internal.OfTree.{depth_and_tag, direct_of}
use Rattle.text_window.proofs.Prints.{and_then, same}
use Rattle.text_message.proofs.lines.message_line.Goals as goal

pub returns : goal.returns
unfolding line line_start depth_and_tag ascii
returns c =
    let a = c.args in
    let number = same (decimal (direct_of (indexed a.cells.now) a.number a.s.now)) (ap decimal c.direct.ensures) c.decimal.ensures in
    let name = same (line_start a.depth a.tag (ascii "message")) (sym (append_assoc (depth_and_tag a.depth a.tag) (ascii "message") (ascii " "))) (and_then c.depth_and_tag.ensures c.octets.ensures) in
    and_then (and_then name number) c.put.ensures
