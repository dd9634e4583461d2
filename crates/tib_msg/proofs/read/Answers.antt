-- `tib_msg::read` meets its contract.
use Prim.Native.Nat.{suc}
use mathlib.Core.Path.{refl, sym, ap, ◌∙◌}
use lib.ListN.{length}
use Rattle.reading.specs.internal.Verdicts.{verdict_of}
use Rattle.reading.proofs.Numbers.{some_refusal}
use Rattle.tib_field.proofs.Headers.{header_inside, read_long, read_fault, read_fields}
use Rattle.tib_msg_field.specs.Layout.{magic}
use Rattle.tib_msg_field.specs.Reading.{fields_from, reading}
use Rattle.tib_field.specs.Steps.{flat_depth}
use Rattle.tib_msg.proofs.read.Goals as goal

pub returns-then-message-gt-MESSAGE_LIMIT : goal.returns-then-message-gt-MESSAGE_LIMIT
unfolding reading verdict_of
returns-then-message-gt-MESSAGE_LIMIT c =
    let a = c.args.message.now in
    rw c.at.ensures (ap (verdict_of length flat_depth) (sym (read_long magic a (fields_from (suc (length a))) c.if-message-gt-MESSAGE_LIMIT.true)))

pub returns-in-Err : goal.returns-in-Err
unfolding reading verdict_of
returns-in-Err c =
    let a = c.args.message.now in
    rw c.at-in-Err.ensures
    (ap (verdict_of length flat_depth) (sym (read_fault magic a (fields_from (suc (length a))) c.if-message-gt-MESSAGE_LIMIT.false _ c.in-Err.ensures (some_refusal _))))

pub traverse-requires : goal.traverse-requires
traverse-requires c = (header_inside magic c.args.message.now (sym c.in-Ok.ensures), c.if-message-gt-MESSAGE_LIMIT.false)

pub returns-in-Ok : goal.returns-in-Ok
unfolding reading
returns-in-Ok c =
    let a = c.args.message.now in
    c.traverse.ensures
    ∙ ap (verdict_of length flat_depth) (sym (read_fields magic a (fields_from (suc (length a))) c.if-message-gt-MESSAGE_LIMIT.false 0 c.in-Ok.ensures refl))
