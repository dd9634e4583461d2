-- The head of the field at an offset of a message: its tag and the span of its contents. `head_at` returns it.
use Rattle.std.specs.Prelude.{ℕ, ◌+◌, ◌-◌, cond, List, Option, None, Some, Result, Ok, Err, length, leb}
use Rattle.reading.specs.Refusals as refusals
use Rattle.octets.specs.Control.{control}
use Rattle.octets.specs.declared.Control.{Control}
use Rattle.octets.specs.declared.Control.TheVariants.{Absent, Partial, Whole}
use Rattle.reading.specs.declared.Refusal.{Refusal}
use Rattle.reading.specs.Refusals.{number}
use Rattle.message_field.specs.declared.Head as code

-- The head of a field, or there is none: the message ends there, or it has a fault with this refusal's number.
pub data Head : Type 0 where
  End : Head
  Fault : ℕ → Head
  Field : ℕ → ℕ → ℕ → Head

-- What the function `head_at` returns.
abbrev pub head_of : Result (Option code.Head) Refusal → Head
head_of (Ok None) = End
head_of (Ok (Some h)) = Field h.tag h.start h.end
head_of (Err r) = Fault (number r)

-- The head by the control part at the front of s, the octets of the message from the offset i on.
unfoldable pub head_from : ℕ → List ℕ → Control → Head
head_from i s Absent = End
head_from i s Partial = Fault refusals.cut
head_from i s (Whole tag len size) = cond (leb len (length s - size)) (Field tag (i + size) (i + size + len)) (Fault refusals.past_the_end)

unfoldable pub head_at : ℕ → List ℕ → Head
head_at i s = head_from i s (control s)

-- There is no field.
unfoldable pub Fieldless : Head → Type 0
Fieldless End = Unit {0}
Fieldless (Fault k) = Unit {0}
Fieldless (Field tag start end) = ⊥
