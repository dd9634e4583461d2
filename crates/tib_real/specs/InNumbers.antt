-- A real read as a whole number, in numbers, by the result of the function that reads it.
use Rattle.std.specs.Prelude.{ℤ, pos, Result, Ok, Err}
use Rattle.reading.specs.declared.Refusal.{Refusal}
use Rattle.reading.specs.Refusals.{number}
use Rattle.tib_real.specs.declared.types.WholeNumber.{WholeNumber}

abbrev pub whole_number : Result ℤ Refusal → WholeNumber
whole_number (Ok z) = record { refusal = 0; place = 0; value = z }
whole_number (Err r) = record { refusal = number r; place = 0; value = pos 0 }
