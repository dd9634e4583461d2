-- Reading a QForm message under the entries of a dictionary: its division into fields, or the first refusal with its place.
use Rattle.std.specs.Prelude.{ℕ, suc, ◌+◌, ◌%◌, cond, List, [], ◌∷◌, length, take, drop, get_or, ltb}
use Rattle.std.proofs.Math.Option.{Option, none, some}
use Rattle.reading.specs.Reading.{Reading}
use Rattle.reading.specs.Refusals as refusals
use Rattle.tib_field.specs.Header.{reading_of}
use Rattle.tib_field.specs.Steps.{Step, Done, Fault, Over, fields_by}
use Rattle.tib_dictionary.specs.Entry.{find}
use Rattle.tib_dictionary.specs.declared.Entry.{Entry}
use Rattle.tib_qform_field.specs.Layout.{flagged, fid, Parts, magic}

-- How many octets follow the FID: the data and their padding.
unfoldable pub data_octets : Entry → ℕ
data_octets e = e.size + e.size % 2

-- The field from its data on, by its entry. A fid that is not in the dictionary is refused before the data are looked at.
unfoldable pub from_data : Option Entry → List ℕ → Step Entry
from_data none s = Fault refusals.not_in_dictionary
from_data (some e) s = cond (ltb (length s) (data_octets e)) (Fault refusals.past_the_end) (Over e)

-- What stands at the front of octets.
unfoldable pub next_field : List Entry → List ℕ → Step Entry
next_field es [] = Done
next_field es (high ∷ []) = Fault refusals.cut
next_field es (high ∷ low ∷ s) = cond (flagged high) (from_data (find es (fid high low)) s) (Fault refusals.type_size_or_hint)

-- How many octets a field takes: two more, for the FID.
unfoldable pub total : Entry → ℕ
total e = 2 + data_octets e

-- The parts of the field at the front of octets.
unfoldable pub parts_at : List ℕ → Entry → Parts
parts_at s e =
    record {
      high = get_or s 0 0;
      low = get_or s 1 0;
      contents = take e.size (drop 2 s);
      padding = take (e.size % 2) (drop e.size (drop 2 s));
    }

-- The fields from a place on. The first number bounds the fields that are still looked at.
abbrev pub fields_from : List Entry → ℕ → ℕ → List ℕ → Reading (List Parts)
fields_from es = fields_by (next_field es) total parts_at

-- The whole message. A field takes two octets or more, so one more than the octets of the message is a sufficient bound.
unfoldable pub reading : List Entry → List ℕ → Reading (List Parts)
reading es s = reading_of magic (fields_from es (suc (length s))) s
