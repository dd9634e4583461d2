-- `tag_kind` meets its contract: each refusal in its order, then what the index of the table says.
use mathlib.Core.Path.{sym, ◌∙◌}
use Rattle.table_index.proofs.IndexLaws.{table_valid}
use Rattle.writer_state.specs.internal.Tags.{wanted_number}
use Rattle.writer_state.proofs.TagKinds.{under_unusable, under_faulty, tag_known}
use Rattle.writer_state.proofs.tag_kind.Goals as goal

pub returns-then-not-usable : goal.returns-then-not-usable
returns-then-not-usable c =
    let a = c.args in
    rw c.at.ensures (under_unusable a.t a.s a.len a.tag (wanted_number a.wanted) c.if-not-usable.ensures)

pub returns-then-not-index_table : goal.returns-then-not-index_table
returns-then-not-index_table c =
    let a = c.args in
    let i = c.index_table in
    rw c.at-then-not-index_table.ensures
    (under_faulty a.t a.s a.len a.tag (wanted_number a.wanted) (sym c.if-not-usable.ensures)
    (sym (table_valid a.s.revision a.t i.ensures.value) ∙ c.if-not-index_table.true))

pub returns : goal.returns
returns c =
    let a = c.args in
    let i = c.index_table in
    tag_known a.t a.s a.tag (sym (table_valid a.s.revision a.t i.ensures.value) ∙ c.if-not-index_table.false) i.ensures.cells_after a.len
    (wanted_number a.wanted) (sym c.if-not-usable.ensures) c.tag_under.ensures
