-- `store_untagged` meets its contract: the parts of the state, one after the other.
use borrow.Author.Rules.{rules}
use mathlib.Core.Path.{◌∙◌}
use Rattle.writer_words.proofs.Arrays.{untagged_stored}
use Rattle.writer_words.proofs.store_untagged.Goals as goal

pub returns : goal.returns
returns c =
    let a = c.args in
    c.copy-4.ensures
    ∙ rw (c.copy-3.ensures, c.copy-2.ensures, c.copy.ensures, c.wide_marks.ensures)
    (untagged_stored a.s (search rules) (search rules) (search rules) a.words.now c.requires)
