-- `lines::int` puts the digits of the number that was read.
use borrow.Author.Rules.{rules}
use mathlib.Core.Path.{ap, ◌∙◌}
use mir.Syntax.{w64}
use mir.ValLaws.{to_z-of_z}
use Rattle.octets.specs.Signed.{integer}
use Rattle.octets.proofs.Integer.{signed_is}
use Rattle.text_window.specs.Digits.{signed_decimal}
use Rattle.text_window.proofs.Prints.{same}
use Rattle.text_message.proofs.lines.int.Goals as goal

-- What the machine reads back from the bits of the value is the value.
pub returns : goal.returns
returns c =
    let f = c.int-v in
    let value_is = to_z-of_z w64 f.result.value (search rules) ∙ f.ensures.value_value ∙ signed_is c.args.s.now c.requires in
    same (signed_decimal (integer c.args.s.now)) (ap signed_decimal value_is) c.signed.ensures
