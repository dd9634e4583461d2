-- `text_message::lines::depth_and_tag` meets its contract.
use Rattle.text_window.specs.Ascii.{ascii}
use Rattle.text_message.specs.internal.OfTree.{depth_and_tag}
use Rattle.text_window.proofs.Prints.{and_then}
use Rattle.text_message.proofs.lines.depth_and_tag.Goals as goal

pub returns : goal.returns
unfolding depth_and_tag ascii
returns c = and_then (and_then (and_then c.decimal.ensures c.put.ensures) c.four_digits.ensures) c.put-2.ensures
