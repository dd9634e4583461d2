-- What the check and the call for a field return for a QForm message, by its reading and by the dictionary.
use Rattle.std.specs.Prelude.{ℕ, ◌+◌, cond, List, length, ltb}
use Rattle.reading.specs.Reading.{Reading, accepted, refused, message_limit}
use Rattle.reading.specs.Refusals as refusals
use Rattle.reading.specs.Checks.{refusal, counts}
use Rattle.reading.specs.declared.Checked.{Checked}
use Rattle.tib_field.specs.Fields.{placed}
use Rattle.tib_field.specs.Kth.{field_of}
use Rattle.tib_field.specs.Steps.{flat_depth}
use Rattle.tib_dictionary.specs.Entry.{entry_with, entries}
use Rattle.tib_dictionary.specs.Load.{loading}
use Rattle.tib_dictionary.specs.Valid.{valid}
use Rattle.tib_dictionary.specs.declared.Entry.{Entry}
use Rattle.tib_dictionary.specs.declared.Dictionary.{Dictionary}
use Rattle.tib_qform_field.specs.Layout.{Parts, octets, fid_of}
use Rattle.tib_qform_field.specs.Reading.{reading}
use Rattle.tib_qform.specs.declared.types.FieldAnswer.{FieldAnswer}

-- The check of a message under entries: its refusal, or the count of its fields.
unfoldable pub check : List Entry → List ℕ → Checked
check es s = counts length flat_depth (reading es s)

-- The field that a refused call returns: the refusal and its place, all else 0.
abbrev pub refused_field : ℕ → ℕ → FieldAnswer
refused_field refusal at = record { refusal = refusal; place = at; fid = 0; kind = 0; data_place = 0; data_length = 0 }

-- A field that begins at a place, by its fid and its entry. The data come after the two octets of the FID.
unfoldable pub shown_by : ℕ → ℕ → Entry → FieldAnswer
shown_by at fid e =
    record { refusal = 0; place = 0; fid = fid; kind = e.kind; data_place = at + 2; data_length = e.size }

-- A field of a message.
unfoldable pub shown : List Entry → ℕ → Parts → FieldAnswer
shown es at f = shown_by at (fid_of f) (entry_with es (fid_of f))

-- The fields with the places where they begin, the first after the header.
unfoldable pub places : List Parts → List (ℕ × Parts)
places fs = placed octets 8 fs

-- The k-th field of a message under entries.
unfoldable pub field : List Entry → List ℕ → ℕ → FieldAnswer
field es s k = field_of refused_field (shown es) places k (reading es s)

-- An answer by what loading the dictionary gave: its refusal, or what `under` gives for its entries.
unfoldable pub after_loading : {R : Type 0} → (ℕ → ℕ → R) → (List Entry → R) → Reading (List Entry) → R
after_loading refuse under (accepted es) = under es
after_loading refuse under (refused reason place) = refuse reason place

-- The order of refusals: first a message that is too long, then a faulty dictionary, then what the reading under the dictionary's entries gives.
unfoldable pub under_dictionary : {R : Type 0} → (ℕ → ℕ → R) → (List Entry → R) → Reading (List Entry) → List ℕ → R
under_dictionary refuse under loaded s =
    cond (ltb message_limit (length s)) (refuse refusals.too_long 0) (after_loading refuse under loaded)

-- The entries of a dictionary value. One that the loader cannot return is refused at the place 0.
unfoldable pub entries_of : Dictionary → Reading (List Entry)
entries_of d = cond (valid d) (accepted (entries d)) (refused refusals.table 0)

-- The calls, for the octets of a dictionary and for a dictionary value.
unfoldable pub check_octets : List ℕ → List ℕ → Checked
check_octets dictionary s = under_dictionary refusal (λ es. check es s) (loading dictionary) s

unfoldable pub check_loaded : Dictionary → List ℕ → Checked
check_loaded d s = under_dictionary refusal (λ es. check es s) (entries_of d) s

unfoldable pub field_octets : List ℕ → List ℕ → ℕ → FieldAnswer
field_octets dictionary s k = under_dictionary refused_field (λ es. field es s k) (loading dictionary) s

unfoldable pub field_loaded : Dictionary → List ℕ → ℕ → FieldAnswer
field_loaded d s k = under_dictionary refused_field (λ es. field es s k) (entries_of d) s
