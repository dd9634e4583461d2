-- The answers of the calls in numbers, as the definitions and the C functions have them, by what the functions return.
use Rattle.std.specs.Prelude.{ℕ, ℤ, pos, Bool, false, Result, Ok, Err}
use Rattle.reading.specs.Refusals.{number}
use Rattle.reading.specs.Checks as checks
use Rattle.reading.specs.declared.Checked.{Checked}
use Rattle.reading.specs.declared.Fault.{Fault}
use Rattle.message_calls.specs.Shorten as shortens
use Rattle.message_calls.specs.Lookup as lookups
use Rattle.message_calls.specs.declared.Summary.{Summary}
use Rattle.message_calls.specs.declared.CheckedMessage.{CheckedMessage}
use Rattle.message_calls.specs.declared.Shortened.{Shortened}
use Rattle.message_calls.specs.declared.Value.{Value}
use Rattle.message_calls.specs.declared.Value.TheVariants.{Raw, Uint, Int, String, Text, Message}
use Rattle.message_calls.specs.declared.Field.{Field}
use Rattle.message_calls.specs.declared.Found.{Found}

-- The check's answer, and whether the message is in its shortest form.
abbrev pub checked_numbers : Result Summary Fault → Checked
checked_numbers (Ok c) = record { refusal = 0; place = 0; fields = c.counts.fields; depth = c.counts.depth }
checked_numbers (Err f) = checks.refusal (number f.refusal) f.place

abbrev pub shortest_of : Result Summary Fault → Bool
shortest_of (Ok c) = c.shortest
shortest_of (Err f) = false

abbrev pub checked_message : Result Summary Fault → CheckedMessage
checked_message r = record { checked = checked_numbers r; shortest = shortest_of r }

-- The shortener's answer.
abbrev pub shortened_numbers : Result ℕ Fault → Shortened
shortened_numbers (Ok n) = record { refusal = 0; place = 0; length = n }
shortened_numbers (Err f) = shortens.refusal (number f.refusal) f.place

-- The number of a value's kind, the value of a uint and the value of an int; 0 for any other.
abbrev pub kind_of_value : Value → ℕ
kind_of_value Raw = 0
kind_of_value (Uint v) = 1
kind_of_value (Int v) = 2
kind_of_value String = 3
kind_of_value Text = 4
kind_of_value Message = 5

abbrev pub uint_of_value : Value → ℕ
uint_of_value Raw = 0
uint_of_value (Uint v) = v
uint_of_value (Int v) = 0
uint_of_value String = 0
uint_of_value Text = 0
uint_of_value Message = 0

abbrev pub int_of_value : Value → ℤ
int_of_value Raw = pos 0
int_of_value (Uint v) = pos 0
int_of_value (Int v) = v
int_of_value String = pos 0
int_of_value Text = pos 0
int_of_value Message = pos 0

-- The lookup's answer, for a field that was found and in every case.
abbrev pub field_numbers : Field → Found
field_numbers f =
    record {
      refusal = 0;
      place = 0;
      kind = kind_of_value f.value;
      value = uint_of_value f.value;
      signed = int_of_value f.value;
      start = f.start;
      length = f.length;
    }

abbrev pub found_numbers : Result Field Fault → Found
found_numbers (Ok f) = field_numbers f
found_numbers (Err f) = lookups.refusal (number f.refusal) f.place
