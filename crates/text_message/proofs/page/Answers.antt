-- `text_message::page` meets its contract.
use native.Mathlib.Omega.{arith}
use Rattle.text_window.specs.Ascii.{ascii}
use Rattle.text_message.specs.Text.{page}
use Rattle.text_window.proofs.Prints.{and_then}
use Rattle.text_message.proofs.page.Goals as goal

pub write-requires : goal.write-requires
write-requires c = record { levels_le_depth_limit = omega arith; accepts = c.requires }

pub returns : goal.returns
unfolding page ascii
returns c =
    and_then (and_then (and_then (and_then (and_then (and_then c.octets.ensures c.write.ensures) c.octets-2.ensures) c.decimal.ensures) c.octets-3.ensures) c.decimal-2.ensures) c.put.ensures
