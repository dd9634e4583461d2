-- `octets_text::upper_part` meets its contract.
use Rattle.std.proofs.Common.{rules}
use Rattle.octets_text.proofs.Judging.{upper_part_is}
use Rattle.octets_text.proofs.upper_part.Goals as goal

pub returns : goal.returns
returns c = let k = c in λ l h m. upper_part_is k.args.c k.args.x l h m (search rules)
