-- `look` checks the message, and then looks for the field.
use mathlib.Core.Path.{◌≡◌}
use Rattle.std.specs.Prelude.{Option, Some, None, MatchOption, Err}
use Rattle.std.specs.Option.{ok_or}
use Rattle.std.proofs.lemmas.Result.{err_from_is_err_and}
use Rattle.reading.specs.Checks as answers
use Rattle.reading.specs.Refusals as refusals
use Rattle.reading.specs.declared.Fault.{Fault}
use Rattle.reading.specs.declared.Refusal.TheVariants.{Absent}
use Rattle.table_index.specs.internal.Cells.{indexed}
use Rattle.message_calls.specs.Check.{check_under}
use Rattle.message_calls.specs.Lookup.{refusal}
use Rattle.message_calls.specs.Results.{checked_numbers, field_numbers, found_numbers}
use Rattle.message_calls.specs.declared.Field.{Field}
use Rattle.message_calls.specs.declared.Found.{Found}
use Rattle.message_calls.proofs.LookupAnswers.{refused-under}
use Rattle.message_calls.proofs.Numbers.{fault_refuses, summary_passes}
use Rattle.message_calls.proofs.outermost.look.Goals as goal

-- The answer by the field that is found, if any.
found-or-absent : (x : Found) (o : Option Field) (f : Fault) → f ≡ record { refusal = Absent; place = 0 }
    → MatchOption o (refusal refusals.absent 0 ≡ x) (λ y. field_numbers y ≡ x) → found_numbers (ok_or o f) ≡ x
found-or-absent x None f e h = rw e h
found-or-absent x (Some y) f e h = h

pub returns-in_err-check : goal.returns-in_err-check
unfolding answers.refusal
returns-in_err-check c =
    let a = c.args in
    let q = err_from_is_err_and c.from_residual.result c.from_residual.ensures.1 in
    let f = c.in_err-check.field-0.0 in
    rw (q.1, q.2)
    (refused-under (indexed a.index.now.cells) a.number a.message.now a.tag a.which (checked_numbers (Err f)) c.in_err-check.ensures.checked_value (fault_refuses f))

pub wanted-requires : goal.wanted-requires
wanted-requires c =
    let a = c.args in
    summary_passes (check_under (indexed a.index.now.cells) a.number a.message.now) c.in_ok-check.field-0 c.in_ok-check.ensures.checked_value

pub returns : goal.returns
returns c = rw c.ok_or.ensures.value (found-or-absent _ c.wanted.result c.at.result c.at.ensures c.wanted.ensures)
