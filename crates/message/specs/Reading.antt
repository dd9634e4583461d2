-- Reading a message: the reading accepts it with its cut, or refuses it with the first refusal and its place.
use Rattle.std.specs.Prelude.{ℕ, zero, suc, ◌+◌, ◌-◌, Bool, cond, ◌&&◌, List, [], ◌∷◌, length, take, drop, leb, eqb}
use Rattle.octets.specs.Text.{text}
use Rattle.octets.specs.Control.{control}
use Rattle.octets.specs.declared.Control.{Control}
use Rattle.octets.specs.declared.Control.TheVariants.{Absent, Partial, Whole}
use Rattle.table.specs.Entry.{kind_number}
use Rattle.table.specs.Schema.{Schema}
use Rattle.table.specs.declared.Meaning.{Meaning}
use Rattle.table.specs.declared.Meaning.TheVariants.{Raw, Uint, Int, String, Text, Message}
use Rattle.reading.specs.Refusals as refusals
use Rattle.reading.specs.Reading.{Reading, accepted, refused, on_accepted, in_order, depth_limit}
use Rattle.message.specs.Cut.{Cut, end, leaf, nested}
use Rattle.message.specs.Single.{repeats}

-- The step at the front of octets: their end; a field that is rejected with a refusal; a field that is no message, with the lengths of its control
-- part and of its contents; or a field that is a message, with its message number and the same lengths.
pub data Step : Type 0 where
  Done : Step
  Fault : ℕ → Step
  Over : ℕ → ℕ → Step
  Into : ℕ → ℕ → ℕ → Step

-- The step at a whole field, by its tag's meaning, the length of its control part and its contents.
unfoldable pub step_by_kind : Meaning → ℕ → List ℕ → Step
step_by_kind Raw size s = Over size (length s)
step_by_kind Uint size s = cond (leb (length s) 8) (Over size (length s)) (Fault refusals.number_too_wide)
step_by_kind Int size s = cond (leb (length s) 8) (Over size (length s)) (Fault refusals.number_too_wide)
step_by_kind String size s = Over size (length s)
step_by_kind Text size s = cond (text s) (Over size (length s)) (Fault refusals.text)
step_by_kind (Message m) size s = Into m size (length s)

-- Whether a field of a kind is a message where `levels`, the count of messages that may be nested, is 0.
unfoldable pub too_deep : ℕ → Meaning → Bool
too_deep levels kind = eqb levels 0 && eqb (kind_number kind) 5

-- The step at the front of octets, by the control part there, after fields of the same message with the tags `before`. The length that it
-- announces must not exceed the count of octets after it. The refusals stand in their order: a field that ends past the message, one that is
-- too deep, one that repeats a single field, and those for its contents.
unfoldable pub step_from : Schema → ℕ → ℕ → List ℕ → List ℕ → Control → Step
step_from sc levels n before s Absent = Done
step_from sc levels n before s Partial = Fault refusals.cut
step_from sc levels n before s (Whole tag len size) =
    cond (leb len (length s - size))
    (cond (too_deep levels (sc.means n tag)) (Fault refusals.too_deep)
    (cond (repeats sc n before tag) (Fault refusals.repeated)
    (step_by_kind (sc.means n tag) size (take len (drop size s)))))
    (Fault refusals.past_the_end)

-- The step at the front of octets, in a message of a number.
unfoldable pub step : Schema → ℕ → ℕ → List ℕ → List ℕ → Step
step sc levels n before s = step_from sc levels n before s (control s)

-- The tag of the field at the front of octets, 0 where no whole control part stands there. A step over a field or into a message finds one.
unfoldable pub tag_of : Control → ℕ
tag_of Absent = 0
tag_of Partial = 0
tag_of (Whole tag length size) = tag

unfoldable pub tag_at : List ℕ → ℕ
tag_at s = tag_of (control s)

-- How a nested message is read: its number, the place of its field, the place of its contents, and its contents.
abbrev pub Inner : Type 0
Inner = ℕ → ℕ → ℕ → List ℕ → Reading Cut

-- The reading after a step at the front of octets that start at a place. `next` reads the fields that follow.
unfoldable pub after_step : Inner → (ℕ → List ℕ → Reading Cut) → ℕ → List ℕ → Step → Reading Cut
after_step inner next at s Done = accepted end
after_step inner next at s (Fault reason) = refused reason at
after_step inner next at s (Over k l) = on_accepted (leaf (tag_at s) (take k s) (take l (drop k s))) (next (at + k + l) (drop (k + l) s))
after_step inner next at s (Into m k l) =
    in_order (nested (tag_at s) (take k s)) (inner m at (at + k) (take l (drop k s))) (next (at + k + l) (drop (k + l) s))

-- The reading of the fields of one message, from a place on, after fields with the tags `before`. `levels` is how many messages may be nested
-- in it, and `inner` reads them. `fuel` bounds how many fields are read.
unfoldable pub fields_from : Schema → ℕ → Inner → ℕ → List ℕ → ℕ → ℕ → List ℕ → Reading Cut
fields_from sc levels inner n before zero at s = refused refusals.cut at
fields_from sc levels inner n before (suc fuel) at s =
    after_step inner (fields_from sc levels inner n (tag_at s ∷ before) fuel) at s (step sc levels n before s)

-- The reading of a message of a number, at most `levels` messages deep. At 0 levels it is refused as too deep, at the place of its field; the
-- reading of the message around it refuses such a field before. A field takes an octet or more, so fuel of one more than the count of octets is
-- enough.
unfoldable pub message_from : Schema → ℕ → Inner
message_from sc zero n field at s = refused refusals.too_deep field
message_from sc (suc levels) n field at s = fields_from sc levels (message_from sc levels) n [] (suc (length s)) at s

-- The outermost message: its cut, or the first refusal.
unfoldable pub reading : Schema → ℕ → List ℕ → Reading Cut
reading sc n s = message_from sc depth_limit n 0 0 s
