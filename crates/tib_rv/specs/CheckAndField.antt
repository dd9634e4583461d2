-- What `check` and `field` return for a TibrvMsg message, by its reading.
use Rattle.std.specs.Prelude.{ℕ, ◌+◌, false, List, [], ◌∷◌, length}
use Rattle.reading.specs.Checks.{counts}
use Rattle.reading.specs.declared.Checked.{Checked}
use Rattle.tib_field.specs.Refused.{no_real, refused_field}
use Rattle.tib_field.specs.Fields.{placed}
use Rattle.tib_field.specs.Kth.{field_of}
use Rattle.tib_field.specs.declared.FieldAnswer.{FieldAnswer}
use Rattle.tib_rv_field.specs.Layout.{Parts, octets, holder, Fields, end, leaf, nested, message, depth}
use Rattle.tib_rv_field.specs.Reading.{reading}

-- The count of fields, at all depths.
unfoldable pub count : Fields → ℕ
count end = 0
count (leaf f rest) = 1 + count rest
count (nested name size inside rest) = 1 + count inside + count rest

-- The check of a message: its refusal, or the counts of its division.
unfoldable pub check : List ℕ → Checked
check s = counts count depth (reading s)

-- The outermost fields. The data of one that holds a message are the whole message.
unfoldable pub outermost : Fields → List Parts
outermost end = []
outermost (leaf f rest) = f ∷ outermost rest
outermost (nested name size inside rest) = holder name (message size inside) ∷ outermost rest

-- A field that begins at a place. The octet before the name is its size, and the octet after it the type. No field has a hint, and the
-- octets of a real are handed out as they stand.
unfoldable pub shown : ℕ → Parts → FieldAnswer
shown at f =
    record {
      refusal = 0;
      place = 0;
      name_place = at + 1;
      name_length = length f.name;
      kind = f.octet;
      data_place = at + 2 + length f.name + length f.size;
      data_length = length f.contents;
      hinted = false;
      hint_kind = 0;
      hint = 0;
      real = no_real;
    }

-- The outermost fields with the places where they begin, the first after the header.
unfoldable pub places : Fields → List (ℕ × Parts)
places fs = placed octets 8 (outermost fs)

-- The k-th outermost field of a message.
unfoldable pub field : List ℕ → ℕ → FieldAnswer
field s k = field_of refused_field shown places k (reading s)
