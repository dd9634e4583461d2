-- `store_tags` meets its contract: the tags after the other numbers.
use borrow.Author.Rules.{rules}
use native.Mathlib.Omega.{arith}
use mathlib.Core.Path.{◌≡◌, ◌∙◌}
use lib.ListN.{length}
use Rattle.writer_words.proofs.Arrays.{tags_stored}
use Rattle.writer_words.proofs.store_tags.Goals as goal

pub returns-then-words-eq-STATE_WORDS : goal.returns-then-words-eq-STATE_WORDS
returns-then-words-eq-STATE_WORDS c =
    let a = c.args in
    let seven : length a.s.tags ≡ 7 = search rules in
    c.copy.ensures
    ∙ rw c.wide_tags.ensures
    (tags_stored a.s (search rules) (search rules) (search rules) a.words.now c.if-words-eq-STATE_WORDS.true c.store_untagged.ensures a.n (omega arith) seven)
