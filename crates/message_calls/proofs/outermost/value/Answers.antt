-- `value` reads a number only where the kind has one.
use mathlib.Core.Path.{◌∙◌}
use mir.Syntax.{w64}
use mir.ValLaws.{to_z-of_z}
use Rattle.table.specs.Entry.{kind_number}
use Rattle.message_calls.specs.internal.Spans.{uint_in, int_in}
use Rattle.message_calls.proofs.outermost.value.Goals as goal

pub returns-in-Raw : goal.returns-in-Raw
unfolding kind_number uint_in int_in
returns-in-Raw c = record { kind_value = rw c.in-Raw.is; uint_value = rw c.in-Raw.is; int_value = rw c.in-Raw.is }

pub returns-in-Uint : goal.returns-in-Uint
unfolding kind_number uint_in int_in
returns-in-Uint c = record { kind_value = rw c.in-Uint.is; uint_value = rw (c.in-Uint.is, c.uint.ensures.value_value); int_value = rw c.in-Uint.is }

pub returns-in-Int : goal.returns-in-Int
unfolding kind_number uint_in int_in
returns-in-Int c = record { kind_value = rw c.in-Int.is; uint_value = rw c.in-Int.is; int_value = let z = to_z-of_z w64 c.int.result.value (record { sfits = c.struct_told-1.given.0.1 }) in z ∙ rw (c.in-Int.is, c.int.ensures.value_value) }

pub returns-in-String : goal.returns-in-String
unfolding kind_number uint_in int_in
returns-in-String c = record { kind_value = rw c.in-String.is; uint_value = rw c.in-String.is; int_value = rw c.in-String.is }

pub returns-in-Text : goal.returns-in-Text
unfolding kind_number uint_in int_in
returns-in-Text c = record { kind_value = rw c.in-Text.is; uint_value = rw c.in-Text.is; int_value = rw c.in-Text.is }

pub returns-in-Message : goal.returns-in-Message
unfolding kind_number uint_in int_in
returns-in-Message c = record { kind_value = rw c.in-Message.is; uint_value = rw c.in-Message.is; int_value = rw c.in-Message.is }
