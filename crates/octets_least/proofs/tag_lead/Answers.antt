-- `octets_least::tag_lead` meets its contract.
use native.Mathlib.Omega.{arith}
use Rattle.octets.specs.ControlPart.{tag_code}
use Rattle.octets_least.proofs.Forms.{direct, tag_one, tag_two}
use borrow.Author.Rules.{rules}
use Rattle.octets_least.proofs.tag_lead.Goals as goal

pub returns-then-tag-lt14 : goal.returns-then-tag-lt14
returns-then-tag-lt14 c = direct tag_code c.args.tag c.if-tag-lt14.true (omega arith)

pub returns-then-tag-lt256 : goal.returns-then-tag-lt256
returns-then-tag-lt256 c = tag_one c.args.tag c.if-tag-lt14.false c.if-tag-lt256.true

pub returns : goal.returns
returns c = tag_two c.args.tag c.if-tag-lt256.false (search rules)
