-- `octets_least::length_lead` meets its contract.
use native.Mathlib.Omega.{arith}
use Rattle.octets.specs.ControlPart.{length_code}
use Rattle.octets_least.proofs.Forms.{direct, length_one, length_two, length_four, length_eight}
use borrow.Author.Rules.{rules}
use Rattle.octets_least.proofs.length_lead.Goals as goal

pub returns-then-length-lt12 : goal.returns-then-length-lt12
returns-then-length-lt12 c = direct length_code c.args.length c.if-length-lt12.true (omega arith)

pub returns-then-length-lt256 : goal.returns-then-length-lt256
returns-then-length-lt256 c = length_one c.args.length c.if-length-lt12.false c.if-length-lt256.true

pub returns-then-length-lt65536 : goal.returns-then-length-lt65536
returns-then-length-lt65536 c = length_two c.args.length c.if-length-lt256.false c.if-length-lt65536.true

pub returns-then-length-lt4294967296 : goal.returns-then-length-lt4294967296
returns-then-length-lt4294967296 c = length_four c.args.length c.if-length-lt65536.false c.if-length-lt4294967296.true

pub returns : goal.returns
returns c = length_eight c.args.length c.if-length-lt4294967296.false (search rules)
