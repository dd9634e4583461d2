-- The words of a dictionary value that the loader can return are its entries.
use mathlib.Core.Path.{ap, ◌∙◌}
use Rattle.tib_dictionary.specs.Entry.{entries}
use Rattle.tib_dictionary.specs.internal.Search.{first_with}
use Rattle.tib_qform.proofs.Noted.{value_read}
use Rattle.tib_qform.proofs.source.DictionarySource.entry.Goals as goal

pub returns : goal.returns
unfolding entries
returns c = λ es loads. c.find_word.ensures ∙ ap (first_with c.args.fid) (value_read c.args.self.now es loads)
