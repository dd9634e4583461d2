-- A dictionary value: noting its words in cleared cells decides whether the loader can return it.
use mathlib.Core.Path.{◌≡◌, subst}
use mathlib.Core.Bool.{true, false}
use Rattle.tib_dictionary.specs.Entry.{entries}
use Rattle.tib_dictionary.specs.internal.Cells.{all_noted, cells_after}
use Rattle.tib_qform.proofs.Noted.{valid_is, good_words}
use Rattle.tib_qform.proofs.Calls.{valid_entries, invalid_entries}
use Rattle.tib_qform.proofs.source.DictionarySource.note.Goals as goal

pub returns-then-not-note_words : goal.returns-then-not-note_words
returns-then-not-note_words c =
    let d = c.args.self.now in
    let n = c.note_words in
    invalid_entries d (valid_is d n.result (subst (λ l. n.result ≡ all_noted d.words d.count l) c.requires n.ensures.value) false c.if-not-note_words.true)

pub returns : goal.returns
returns c =
    let d = c.args.self.now in
    let n = c.note_words in
    let all = subst (λ l. n.result ≡ all_noted d.words d.count l) c.requires n.ensures.value in
    let cells = subst (λ l. n.new.cells ≡ cells_after d.words d.count l) c.requires n.ensures.cells_after in
    (entries d, valid_entries d (valid_is d n.result all true c.if-not-note_words.false), good_words d n.result all _ cells c.if-not-note_words.false)
