-- The octets of a dictionary: noting their records in cleared cells decides whether the dictionary is good.
use mathlib.Core.Path.{◌≡◌, subst}
use Rattle.tib_dictionary.specs.internal.Cells.{note_from}
use Rattle.tib_qform.proofs.Noted.{faulty_records, good_records}
use Rattle.tib_qform.proofs.source.RecordsSource.note.Goals as goal

pub returns-then-end-self : goal.returns-then-end-self
returns-then-end-self c =
    let s = c.args.self.now.octets.now in
    let end = c.note_records-end in
    faulty_records s end.result (subst (λ l. end.result ≡ (note_from 512 s l).0) c.requires end.ensures.value) c.if-end-self.true

pub returns : goal.returns
returns c =
    let s = c.args.self.now.octets.now in
    let end = c.note_records-end in
    let n =
    good_records s end.result (subst (λ l. end.result ≡ (note_from 512 s l).0) c.requires end.ensures.value) end.new.cells
    (subst (λ l. end.new.cells ≡ (note_from 512 s l).1) c.requires end.ensures.cells_after) c.if-end-self.false in
    (n.es, n.loads, n.cells_of)
