-- A field in numbers, by the result of the function that reads it.
use Rattle.std.specs.Prelude.{Bool, true, false, Option, Some, None, Result, Ok, Err}
use Rattle.reading.specs.declared.Fault.{Fault}
use Rattle.reading.specs.Refusals.{number}
use Rattle.tib_field.specs.declared.Field.{Field}
use Rattle.tib_field.specs.declared.Hint.{Hint}
use Rattle.tib_field.specs.declared.FieldAnswer.{FieldAnswer}
use Rattle.tib_field.specs.Refused.{refused_field}

-- Whether there is a hint.
abbrev pub hinted : Option Hint → Bool
hinted None = false
hinted (Some h) = true

-- The hint, and one of zeros where there is none.
abbrev pub hint_or_zeros : Option Hint → Hint
hint_or_zeros None = record { kind = 0; value = 0 }
hint_or_zeros (Some h) = h

-- A field with no refusal.
abbrev pub accepted_field : Field → FieldAnswer
accepted_field f =
    record {
      refusal = 0;
      place = 0;
      name_place = f.name.place;
      name_length = f.name.length;
      kind = f.kind;
      data_place = f.data.place;
      data_length = f.data.length;
      hinted = hinted f.hint;
      hint_kind = (hint_or_zeros f.hint).kind;
      hint = (hint_or_zeros f.hint).value;
      real = f.real;
    }

abbrev pub field_answer : Result Field Fault → FieldAnswer
field_answer (Ok f) = accepted_field f
field_answer (Err f) = refused_field (number f.refusal) f.place
