-- Reading a TibrvMsg message: its division into fields, or the first refusal with its place. In each part of a field a missing octet is
-- refused before a bad one.
use Rattle.std.specs.Prelude.{ℕ, zero, suc, ◌+◌, ◌-◌, Bool, cond, ◌&&◌, ◌||◌, not, List, [], ◌∷◌, length, take, drop, eqb, leb, ltb}
use Rattle.octets.specs.Number.{big_endian}
use Rattle.reading.specs.Reading.{Reading, accepted, refused, on_accepted, in_order, message_limit, depth_limit}
use Rattle.reading.specs.Refusals as refusals
use Rattle.tib_field.specs.Mark.{begins}
use Rattle.tib_field.specs.Name.{name_step, after_name}
use Rattle.tib_rv_field.specs.declared.Sizes.{Sizes}
use Rattle.tib_rv_field.specs.Layout.{Parts, magic, Fields, end, leaf, nested}

-- What is found where a field may begin: the end of the message, a bad field with its refusal, a field, or a field that holds a message.
pub data Step : Type 0 where
  Done : Step
  Fault : ℕ → Step
  Over : Sizes → Step
  Into : Sizes → Step

-- How many octets of a size follow its first octet.
unfoldable pub following : ℕ → ℕ
following m = cond (eqb m 0x79) 2 (cond (eqb m 0x7a) 4 0)

-- How many of its own octets a size counts: its first octet alone, or those that follow it.
unfoldable pub own : ℕ → ℕ
own m = cond (ltb m 0x79) 1 (following m)

-- The count in a size, by its first octet and the octets after that.
unfoldable pub counted : ℕ → List ℕ → ℕ
counted m s = cond (ltb m 0x79) m (big_endian (take (following m) s))

-- A size counts at least its own octets, and type 1 uses `7a`.
unfoldable pub count_allowed : ℕ → ℕ → ℕ → Bool
count_allowed c m k = leb (own m) k && (not (eqb c 1) || eqb m 0x7a)

-- A field whose octets are all there, by the size of its name, its type, its size's first octet and its count. The message that a field
-- of type 1 holds starts at the size octets, and the count is its length.
unfoldable pub found : ℕ → ℕ → ℕ → ℕ → Step
found n c m k =
    cond (eqb c 1) (Into (record { name = n; octet = c; width = 1; contents = k }))
    (Over (record { name = n; octet = c; width = 1 + following m; contents = k - own m }))

-- The field from its data on, where `remaining` octets follow.
unfoldable pub from_count : ℕ → ℕ → ℕ → ℕ → ℕ → Step
from_count n c m k remaining = cond (count_allowed c m k) (cond (ltb remaining (k - own m)) (Fault refusals.past_the_end) (found n c m k)) (Fault refusals.type_size_or_hint)

-- The field from its size on.
unfoldable pub from_size : ℕ → ℕ → List ℕ → Step
from_size n c [] = Fault refusals.cut
from_size n c (m ∷ s) =
    cond (ltb 0x7a m) (Fault refusals.type_size_or_hint)
    (cond (ltb (length s) (following m)) (Fault refusals.cut)
    (from_count n c m (counted m s) (length s - following m)))

-- The field from its type on, after a name of n octets. Every type octet is read.
unfoldable pub from_type : ℕ → List ℕ → Step
from_type n [] = Fault refusals.cut
from_type n (c ∷ s) = from_size n c s

-- What stands at the front of octets: their end, a fault, a field, or a field that holds a message.
unfoldable pub next_field : List ℕ → Step
next_field s = after_name Done Fault from_type s (name_step s)

-- How many octets a field has before its data: two more than these parts, for the name's size and the type.
unfoldable pub lead : Sizes → ℕ
lead z = 2 + z.name + z.width

unfoldable pub total : Sizes → ℕ
total z = lead z + z.contents

-- The parts of the field at the front of octets, taken off one after the other.
unfoldable pub parts_at : List ℕ → Sizes → Parts
parts_at s z =
    let after_name = drop (1 + z.name) s in
    record {
      name = take z.name (drop 1 s);
      octet = z.octet;
      size = take z.width (drop 1 after_name);
      contents = take z.contents (drop (1 + z.width) after_name);
    }

-- How a nested message is read: the place of its field, the place of its header, and its octets.
abbrev pub Inner : Type 0
Inner = ℕ → ℕ → List ℕ → Reading Fields

-- The division of a field that holds a message, by its parts and the division of the message.
unfoldable pub nested_of : Parts → Fields → Fields → Fields
nested_of f inside rest = nested f.name (take 4 f.contents) inside rest

-- The reading of the fields from a place on, by the step at the front of the octets; `next` reads the fields that follow. A nested message
-- is read before these.
unfoldable pub after_step : Inner → (ℕ → List ℕ → Reading Fields) → ℕ → List ℕ → Step → Reading Fields
after_step inner next at s Done = accepted end
after_step inner next at s (Fault refusal) = refused refusal at
after_step inner next at s (Over z) = on_accepted (leaf (parts_at s z)) (next (at + total z) (drop (total z) s))
after_step inner next at s (Into z) =
    in_order (nested_of (parts_at s z)) (inner at (at + lead z) (parts_at s z).contents) (next (at + total z) (drop (total z) s))

-- The fields of one message, from a place on. `fuel` bounds the fields that are still looked at.
unfoldable pub fields_from : Inner → ℕ → ℕ → List ℕ → Reading Fields
fields_from inner zero at s = refused refusals.cut at
fields_from inner (suc fuel) at s = after_step inner (fields_from inner fuel) at s (next_field s)

-- The refusal of a header, 0 where it is good: cut, another magic number, another size than the message has. The size of a nested message
-- is what gave its octets, so 14 is the outermost message's alone.
unfoldable pub header_fault : List ℕ → ℕ
header_fault s =
    cond (ltb (length s) 8) refusals.cut
    (cond (not (begins magic (drop 4 s))) refusals.magic
    (cond (not (eqb (big_endian (take 4 s)) (length s))) refusals.size
    0))

-- A message, at most `levels` messages deep. Where it is too deep, it is refused at the field that holds it. A field takes an octet or
-- more, so one look more than there are octets is enough.
unfoldable pub message_from : ℕ → Inner
message_from zero field at s = refused refusals.too_deep field
message_from (suc levels) field at s =
    cond (eqb (header_fault s) 0) (fields_from (message_from levels) (suc (length s)) (at + 8) (drop 8 s)) (refused (header_fault s) at)

-- The outermost message: its division, or the first refusal.
unfoldable pub reading : List ℕ → Reading Fields
reading s = cond (ltb message_limit (length s)) (refused refusals.too_long 0) (message_from depth_limit 0 0 s)
