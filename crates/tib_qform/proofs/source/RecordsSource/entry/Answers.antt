-- The records of a dictionary that loads are its entries.
use mathlib.Core.Path.{ap, ◌∙◌}
use Rattle.tib_dictionary.specs.internal.Search.{first_with}
use Rattle.tib_dictionary.proofs.Searches.{records_at_is}
use Rattle.tib_qform.proofs.Noted.{records_read}
use Rattle.tib_qform.proofs.source.RecordsSource.entry.Goals as goal

pub returns : goal.returns
returns c =
    let s = c.args.self.now.octets.now in
    λ es loads. c.find_record.ensures ∙ ap (first_with c.args.fid) (records_at_is s ∙ records_read s es loads)
