-- What `check` and `field` return for a TibMsg message, by its reading.
use Rattle.std.specs.Prelude.{ℕ, ◌+◌, Bool, cond, ◌||◌, List, length, get_or, drop, eqb}
use Rattle.octets.specs.Number.{big_endian}
use Rattle.tib_real.specs.FromOctets.{real_of}
use Rattle.tib_real.specs.declared.types.Real.{Real}
use Rattle.reading.specs.Checks.{counts}
use Rattle.reading.specs.declared.Checked.{Checked}
use Rattle.tib_field.specs.Refused.{no_real, refused_field}
use Rattle.tib_field.specs.Fields.{placed}
use Rattle.tib_field.specs.Kth.{field_of}
use Rattle.tib_field.specs.Steps.{flat_depth}
use Rattle.tib_field.specs.declared.FieldAnswer.{FieldAnswer}
use Rattle.tib_msg_field.specs.Layout.{kind, hinted, Parts, octets}
use Rattle.tib_msg_field.specs.Reading.{reading}

-- The check of a message: its refusal, or the count of its fields.
unfoldable pub check : List ℕ → Checked
check s = counts length flat_depth (reading s)

-- The value of a hint: an array's element size and a partial's offset stand in the second octet, any other value after it.
unfoldable pub hint_value : ℕ → List ℕ → ℕ
hint_value kind hint = cond (eqb kind 8 || eqb kind 9) (get_or hint 1 0) (big_endian (drop 2 hint))

-- The real of a field of type 7, made of its data and its hint; any other field has a real of zeros.
unfoldable pub real_shown : ℕ → List ℕ → ℕ → Bool → Real
real_shown kind contents hint present = cond (eqb kind 7) (real_of contents hint present) no_real

-- A field that begins at a place. The octet before the name is its size, and the octet after it the type.
unfoldable pub shown : ℕ → Parts → FieldAnswer
shown at f =
    record {
      refusal = 0;
      place = 0;
      name_place = at + 1;
      name_length = length f.name;
      kind = kind f.octet;
      data_place = at + 2 + length f.name + length f.size;
      data_length = length f.contents;
      hinted = hinted f.octet;
      hint_kind = get_or f.hint 0 0;
      hint = hint_value (kind f.octet) f.hint;
      real = real_shown (kind f.octet) f.contents (hint_value (kind f.octet) f.hint) (hinted f.octet);
    }

-- The fields with the places where they begin, the first after the header.
unfoldable pub places : List Parts → List (ℕ × Parts)
places fs = placed octets 9 fs

-- The k-th field of a message.
unfoldable pub field : List ℕ → ℕ → FieldAnswer
field s k = field_of refused_field shown places k (reading s)
