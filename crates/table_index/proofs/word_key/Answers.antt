-- `word_key` returns what its definition says, since the message number is below 16.
use mathlib.Core.Path.{sym}
use Rattle.table.specs.Load.{pair}
use Rattle.table_index.proofs.Words.{small, key_is}
use borrow.Author.Rules.{rules}
use Rattle.table_index.proofs.word_key.Goals as goal

pub returns : goal.returns
unfolding pair
returns c = sym (key_is c.args.w (small c.args.w (search rules)))
