-- Reading a TibMsg message: its division into fields, or the first refusal with its place. In each part of a field a missing octet is
-- refused before a bad one.
use Rattle.std.specs.Prelude.{ℕ, suc, ◌+◌, ◌/◌, ◌%◌, Bool, cond, ◌&&◌, ◌||◌, not, List, [], ◌∷◌, length, take, drop, eqb, leb, ltb}
use Rattle.octets.specs.Number.{big_endian}
use Rattle.reading.specs.Reading.{Reading}
use Rattle.reading.specs.Refusals as refusals
use Rattle.tib_field.specs.Header.{reading_of}
use Rattle.tib_field.specs.Name.{name_step, after_name}
use Rattle.tib_field.specs.Steps.{Step, Done, Fault, Over, fields_by}
use Rattle.tib_msg_field.specs.declared.Sizes.{Sizes}
use Rattle.tib_msg_field.specs.Layout.{kind, hinted, size_width, is_width, size_allowed, Parts, magic}

-- What is found where a hint may begin: a refusal, or a hint of this many octets.
pub data HintStep : Type 0 where
  HintFault : ℕ → HintStep
  Size : ℕ → HintStep

-- A type octet: two bits clear, a type that there is, and a hint for an array or a partial.
unfoldable pub type_allowed : ℕ → Bool
type_allowed c = eqb (c / 16 % 4) 0 && (leb (kind c) 10 && (hinted c || not (eqb (kind c) 8 || eqb (kind c) 9)))

-- The hint of an array of this many octets, by its first two octets, the elements' type and size.
unfoldable pub array_hint : ℕ → ℕ → ℕ → HintStep
array_hint size t n = cond ((leb 4 t && leb t 7) && (is_width n && eqb (size % n) 0)) (Size 2) (HintFault refusals.type_size_or_hint)

-- The hint of a partial, by its first octet.
unfoldable pub partial_hint : ℕ → HintStep
partial_hint t = cond (eqb t 6) (Size 2) (HintFault refusals.type_size_or_hint)

-- Any other hint, by its first two octets, its type and size, and how many octets follow these.
unfoldable pub value_hint : ℕ → ℕ → ℕ → HintStep
value_hint t n remaining = cond ((leb 5 t && leb t 6) && is_width n) (cond (ltb remaining n) (HintFault refusals.cut) (Size (2 + n))) (HintFault refusals.type_size_or_hint)

-- The hint at the front of octets, by the field's type and the size of its data.
unfoldable pub read_hint : ℕ → ℕ → List ℕ → HintStep
read_hint kind size [] = HintFault refusals.cut
read_hint kind size (t ∷ []) = HintFault refusals.cut
read_hint kind size (t ∷ n ∷ s) =
    cond (eqb kind 8) (array_hint size t n) (cond (eqb kind 9) (partial_hint t) (value_hint t n (length s)))

-- The hint after the data, where the type octet says that there is one.
unfoldable pub hint_at : ℕ → ℕ → List ℕ → HintStep
hint_at c size s = cond (hinted c) (read_hint (kind c) size s) (Size 0)

-- The field of which all but the hint is read.
unfoldable pub with_hint : ℕ → ℕ → ℕ → ℕ → HintStep → Step Sizes
with_hint n c w l (HintFault k) = Fault k
with_hint n c w l (Size h) = Over (record { name = n; octet = c; width = w; contents = l; hint = h })

-- The field from its data on, which are announced to be l octets.
unfoldable pub from_data : ℕ → ℕ → ℕ → ℕ → List ℕ → Step Sizes
from_data n c w l s = cond (ltb (length s) l) (Fault refusals.past_the_end) (with_hint n c w l (hint_at c l (drop l s)))

-- The field from its size on, which takes w octets.
unfoldable pub from_size : ℕ → ℕ → ℕ → List ℕ → Step Sizes
from_size n c w s =
    cond (ltb (length s) w) (Fault refusals.cut)
    (cond (size_allowed (kind c) (big_endian (take w s))) (from_data n c w (big_endian (take w s)) (drop w s)) (Fault refusals.type_size_or_hint))

-- The field from its type on, after a name of n octets.
unfoldable pub from_type : ℕ → List ℕ → Step Sizes
from_type n [] = Fault refusals.cut
from_type n (c ∷ s) = cond (type_allowed c) (from_size n c (size_width c) s) (Fault refusals.type_size_or_hint)

-- What stands at the front of octets: their end, a fault, or a field.
unfoldable pub next_field : List ℕ → Step Sizes
next_field s = after_name Done Fault from_type s (name_step s)

-- How many octets a field takes: two more than these parts, for the name's size and the type.
unfoldable pub total : Sizes → ℕ
total z = 2 + z.name + z.width + z.contents + z.hint

-- The parts of the field at the front of octets, taken off one after the other.
unfoldable pub parts_at : List ℕ → Sizes → Parts
parts_at s z =
    let after_name = drop (1 + z.name) s in
    let afterSize = drop (1 + z.width) after_name in
    let afterData = drop z.contents afterSize in
    record {
      name = take z.name (drop 1 s);
      octet = z.octet;
      size = take z.width (drop 1 after_name);
      contents = take z.contents afterSize;
      hint = take z.hint afterData;
    }

-- The fields from a place on. The first number bounds the fields that are still looked at.
abbrev pub fields_from : ℕ → ℕ → List ℕ → Reading (List Parts)
fields_from = fields_by next_field total parts_at

-- The whole message. A field takes an octet or more, so one more than the octets of the message is a sufficient bound.
unfoldable pub reading : List ℕ → Reading (List Parts)
reading s = reading_of magic (fields_from (suc (length s))) s
