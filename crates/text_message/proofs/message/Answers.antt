-- `text_message::message` meets its contract.
use Rattle.std.proofs.Common.{rules, ◌≡◌, ◌∙◌, refl, ap, Ok}
use lib.ListN.{length}
use Rattle.table.specs.Schema.{schema}
use Rattle.table_index.specs.internal.Cells.{indexed}
use Rattle.table_index.proofs.IndexLaws.{table_schema}
use Rattle.message_calls.specs.Results.{checked_numbers}
use Rattle.reading.specs.Checks as answers
use Rattle.reading.proofs.Numbers.{some_refusal}
use Rattle.text_window.proofs.Windows.{same_window}
use Rattle.text_window.proofs.Prints.{whole}
use Rattle.text_message.specs.Text.{page, refusal_text}
use Rattle.text_message.specs.internal.OfTree.{lines_of}
use Rattle.text_message.proofs.Lengths.{page_fits}
use Rattle.text_message.proofs.MessageText.{message_refused, message_valid, message_accepts, message_shown}
use Rattle.text_message.proofs.message.Goals as goal
use Rattle.text_message.proofs.message.Goals.{After-index_table}

-- The index of the table of an accepted message gives the table's schema.
same_schema : (c : After-index_table) → indexed c.index_table.new.cells ≡ schema 2 c.args.t
same_schema c =
    table_schema 2 c.args.t (message_valid c.args.t c.args.s.now (checked_numbers (Ok c.in-Ok.summary)) c.in-Ok.ensures.checked_value refl) c.index_table.ensures.cells_after

pub returns-in-Err : goal.returns-in-Err
unfolding answers.refusal
returns-in-Err c =
    let a = c.args in
    let f = c.in-Err in
    let r = c.refusal.ensures in
    let e = ap (λ n. refusal_text n f.fault.place) c.number.ensures ∙ message_refused a.t a.s.now _ f.ensures.checked_value (some_refusal f.fault.refusal) in
    let all = same_window a.out.now a.from e (r.value, r.out_after) in
    record { value = all.0; out_after = all.1 }

pub page-requires : goal.page-requires
page-requires c =
    let a = c.args in
    (message_accepts a.t a.s.now _ c.in-Ok.ensures.checked_value refl _ (same_schema (goal.at.page-requires c).After-index_table)).1

pub returns-in-Ok : goal.returns-in-Ok
returns-in-Ok c =
    let a = c.args in
    let n = c.in-Ok.summary.counts.fields in
    let sc = indexed c.index_table.new.cells in
    let e = same_schema (goal.at.returns-in-Ok c).After-index_table in
    let g = message_accepts a.t a.s.now _ c.in-Ok.ensures.checked_value refl sc e in
    let w = whole (page (lines_of sc 8 0 a.s.now) n (length a.s.now)) (page_fits sc 0 a.s.now n g.0 g.1) refl c.page.ensures in
    let all = same_window a.out.now a.from (message_shown a.t a.s.now _ c.in-Ok.ensures.checked_value refl sc e) w in
    let name = c.page.ensures.same_buffer in
    record { value = all.0; out_after = ◌∙◌ {b = c.page.new.w.out.now} (search rules) all.1 }
