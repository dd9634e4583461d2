-- `close_field` meets its contract: each refusal in its order, then the close.
use mathlib.Core.Path.{sym}
use Rattle.writer_nesting.proofs.Closes.{table_unusable, table_faulty, table_closed}
use Rattle.writer_nesting.proofs.close_field.Goals as goal

pub returns-then-not-usable : goal.returns-then-not-usable
returns-then-not-usable c =
    let a = c.args in
    let p = table_unusable a.t a.s a.out.now c.if-not-usable.ensures in
    record { value = rw c.at.ensures p.value; out_after = p.out_after }

pub returns-then-not-valid : goal.returns-then-not-valid
returns-then-not-valid c =
    let a = c.args in
    let p = table_faulty a.t a.s a.out.now (sym c.if-not-usable.ensures) (sym c.if-not-valid.ensures) in
    record { value = rw c.at-then-not-valid.ensures p.value; out_after = p.out_after }

pub returns : goal.returns
returns c =
    let a = c.args in
    let f = c.close_usable.ensures in
    let p = table_closed a.t a.s a.out.now (sym c.if-not-usable.ensures) (sym c.if-not-valid.ensures) f.value f.out_after in
    record { value = p.value; out_after = p.out_after }
