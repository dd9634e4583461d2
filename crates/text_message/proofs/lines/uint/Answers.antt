-- `lines::uint` puts the digits of the number that was read.
use mathlib.Core.Path.{ap, ◌∙◌}
use Rattle.octets.specs.Number.{big_endian}
use Rattle.octets.proofs.Number.{unsigned_is}
use Rattle.text_window.specs.Digits.{decimal}
use Rattle.text_window.proofs.Prints.{same}
use Rattle.text_message.proofs.lines.uint.Goals as goal

pub returns : goal.returns
returns c =
    let e = c.uint-v.ensures.value_value ∙ unsigned_is c.args.s.now c.requires in
    same (decimal (big_endian c.args.s.now)) (ap decimal e) c.decimal.ensures
