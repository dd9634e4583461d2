-- The field that a refused call returns: the refusal and its place, all else 0.
use Rattle.std.specs.Prelude.{ℕ, false, []}
use Rattle.tib_real.specs.FromOctets.{real_of}
use Rattle.tib_real.specs.declared.types.Real.{Real}
use Rattle.tib_field.specs.declared.FieldAnswer.{FieldAnswer}

-- The real of a field that has none: a real of zeros.
abbrev pub no_real : Real
no_real = real_of [] 0 false

abbrev pub refused_field : ℕ → ℕ → FieldAnswer
refused_field refusal at =
    record {
      refusal = refusal;
      place = at;
      name_place = 0;
      name_length = 0;
      kind = 0;
      data_place = 0;
      data_length = 0;
      hinted = false;
      hint_kind = 0;
      hint = 0;
      real = no_real;
    }
