-- The first fault of a message that has no cut (document 01, Refusal numbers), without saying how it is read: the field that is wrong, and at
-- each level the fields before it.
use Rattle.std.specs.Prelude.{ℕ, ◌+◌, ◌-◌, ◌<◌, ◌≡◌, true, false, List, [], ◌∷◌, ◌++◌, ◌⊎◌, length}
use Rattle.reading.specs.Refusals as refusals
use Rattle.reading.specs.Reading.{depth_limit}
use Rattle.octets.specs.ControlPart.{ControlPart}
use Rattle.octets.specs.CutControl.{CutControl}
use Rattle.octets.specs.Utf8.{IsText}
use Rattle.table.specs.Schema.{Schema}
use Rattle.table.specs.declared.Meaning.TheVariants.{Uint, Int, Text, Message}
use Rattle.message.specs.Cut.{Cut, joined, WholeField, LeafField, NestedField, Good}
use Rattle.message.specs.Single.{repeats}

-- A field that is wrong, and the octets from it on to the end of the message that it stands in: a control part that ends too early; a control
-- part and the octets after it, fewer than the length that it says; a whole field and the octets after it.
pub data Wrong : Type 0 where
  ends_early : (octets : List ℕ) → Wrong
  past_the_end : (tag len : ℕ) (part after : List ℕ) → Wrong
  too_deep : (tag : ℕ) (part contents after : List ℕ) → Wrong
  repeated : (tag : ℕ) (part contents after : List ℕ) → Wrong
  too_wide : (tag : ℕ) (part contents after : List ℕ) → Wrong
  no_text : (tag : ℕ) (part contents after : List ℕ) → Wrong

-- Its refusal.
unfoldable pub wrong_refusal : Wrong → ℕ
wrong_refusal (ends_early octets) = refusals.cut
wrong_refusal (past_the_end tag len part after) = refusals.past_the_end
wrong_refusal (too_deep tag part contents after) = refusals.too_deep
wrong_refusal (repeated tag part contents after) = refusals.repeated
wrong_refusal (too_wide tag part contents after) = refusals.number_too_wide
wrong_refusal (no_text tag part contents after) = refusals.text

unfoldable pub wrong_octets : Wrong → List ℕ
wrong_octets (ends_early octets) = octets
wrong_octets (past_the_end tag len part after) = part ++ after
wrong_octets (too_deep tag part contents after) = part ++ contents ++ after
wrong_octets (repeated tag part contents after) = part ++ contents ++ after
wrong_octets (too_wide tag part contents after) = part ++ contents ++ after
wrong_octets (no_text tag part contents after) = part ++ contents ++ after

-- What makes it wrong, in a message of number n that may be `levels` messages deep, itself counted, and where the fields before it in that message
-- have the tags `before`. Where `levels` is 1, each field that is a message is too deep, even an empty one. A field that is too deep has that fault
-- and no other, and so has one that repeats a single field.
unfoldable pub IsWrong : Schema → ℕ → ℕ → List ℕ → Wrong → Type 0
IsWrong sc levels n before (ends_early octets) = CutControl octets
IsWrong sc levels n before (past_the_end tag len part after) = ControlPart tag len part × (length after < len)
IsWrong sc levels n before (too_deep tag part contents after) = ((m : ℕ) × NestedField sc n m tag part contents) × (levels ≡ 1)
IsWrong sc levels n before (repeated tag part contents after) =
    WholeField tag part contents × (repeats sc n before tag ≡ true) × ((m : ℕ) → sc.means n tag ≡ Message m → 1 < levels)
IsWrong sc levels n before (too_wide tag part contents after) =
    WholeField tag part contents × ((sc.means n tag ≡ Uint) ⊎ (sc.means n tag ≡ Int)) × (8 < length contents) × (repeats sc n before tag ≡ false)
IsWrong sc levels n before (no_text tag part contents after) =
    WholeField tag part contents × (sc.means n tag ≡ Text) × (IsText contents → ⊥) × (repeats sc n before tag ≡ false)

-- The way to a fault from the first field of a message: the fault is here, at that field; or the way goes over that field, which is no message;
-- past it, a message with a cut; or inside it, a message with the fault, and `after` has the octets that follow the field.
pub data Fault : Type 0 where
  here : Wrong → Fault
  over : (tag : ℕ) (part contents : List ℕ) (later : Fault) → Fault
  past : (tag : ℕ) (part : List ℕ) (cut : Cut) (later : Fault) → Fault
  inside : (tag : ℕ) (part : List ℕ) (inner : Fault) (after : List ℕ) → Fault

-- The octets of the message.
unfoldable pub fault_octets : Fault → List ℕ
fault_octets (here wrong) = wrong_octets wrong
fault_octets (over tag part contents later) = part ++ contents ++ fault_octets later
fault_octets (past tag part cut later) = part ++ joined cut ++ fault_octets later
fault_octets (inside tag part inner after) = part ++ fault_octets inner ++ after

-- The refusal, and its place: the first octet of the field that is wrong, counted from the first octet of this message.
unfoldable pub fault_refusal : Fault → ℕ
fault_refusal (here wrong) = wrong_refusal wrong
fault_refusal (over tag part contents later) = fault_refusal later
fault_refusal (past tag part cut later) = fault_refusal later
fault_refusal (inside tag part inner after) = fault_refusal inner

unfoldable pub fault_place : Fault → ℕ
fault_place (here wrong) = 0
fault_place (over tag part contents later) = length part + length contents + fault_place later
fault_place (past tag part cut later) = length part + length (joined cut) + fault_place later
fault_place (inside tag part inner after) = length part + fault_place inner

-- Every field on the way is whole and allowed and repeats no single field before it, every message that the way goes past has a cut, and the
-- field at its end is wrong. `before` has the tags of the fields before the way in the same message.
unfoldable pub LeadsTo : Schema → ℕ → ℕ → List ℕ → Fault → Type 0
LeadsTo sc levels n before (here wrong) = IsWrong sc levels n before wrong
LeadsTo sc levels n before (over tag part contents later) =
    LeafField sc n tag part contents × LeadsTo sc levels n (tag ∷ before) later × (repeats sc n before tag ≡ false)
LeadsTo sc levels n before (past tag part cut later) =
    ((m : ℕ) × NestedField sc n m tag part (joined cut) × Good sc (levels - 1) m (joined cut) cut)
    × LeadsTo sc levels n (tag ∷ before) later
    × (repeats sc n before tag ≡ false)
LeadsTo sc levels n before (inside tag part inner after) =
    (1 < levels)
    × ((m : ℕ) × NestedField sc n m tag part (fault_octets inner) × LeadsTo sc (levels - 1) m [] inner)
    × (repeats sc n before tag ≡ false)

-- The first fault of octets, under a schema and a message number, where a message may be `levels` messages deep.
pub record FirstFault (sc : Schema) (levels number : ℕ) (octets : List ℕ) (fault : Fault) : Type 0 where
  pub divides : fault_octets fault ≡ octets
  pub leads : LeadsTo sc levels number [] fault

-- Octets have a first fault under a schema and a message number.
abbrev pub HasFault : Schema → ℕ → List ℕ → Type 0
HasFault sc n s = (fault : Fault) × FirstFault sc depth_limit n s fault
