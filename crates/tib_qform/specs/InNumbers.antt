-- A field in numbers, by the result of the function that reads it.
use Rattle.std.specs.Prelude.{Result, Ok, Err}
use Rattle.reading.specs.declared.Fault.{Fault}
use Rattle.reading.specs.Refusals.{number}
use Rattle.tib_qform.specs.declared.types.Field.{Field}
use Rattle.tib_qform.specs.declared.types.FieldAnswer.{FieldAnswer}
use Rattle.tib_qform.specs.CheckAndField.{refused_field}

-- A field with no refusal.
abbrev pub accepted_field : Field → FieldAnswer
accepted_field f = record { refusal = 0; place = 0; fid = f.fid; kind = f.kind; data_place = f.data.place; data_length = f.data.length }

abbrev pub field_answer : Result Field Fault → FieldAnswer
field_answer (Ok f) = accepted_field f
field_answer (Err f) = refused_field (number f.refusal) f.place
