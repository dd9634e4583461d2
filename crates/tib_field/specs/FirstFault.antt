-- What is wrong with a message of the formats TibMsg and QForm that is not whole, without saying how it is read: its first fault (document 01,
-- Refusal numbers). A format says which fields are wrong, by their refusal and the octets from the field on to the end of the message.
use Rattle.std.specs.Prelude.{ℕ, ◌+◌, ◌≤◌, ◌<◌, ◌≡◌, List, ◌++◌, length}
use Rattle.octets.specs.Number.{big_endian}
use Rattle.reading.specs.Reading.{message_limit}
use Rattle.reading.specs.Refusals as refusals
use Rattle.tib_field.specs.Fields.{Each, joined}

-- The first fault of octets, by its number and its place: of their length or of the header, at 0; or of the field after fields that the format
-- allows.
pub data FirstFault {A : Type 0} (magic : List ℕ) (octets : A → List ℕ) (Allowed : A → Type 0) (WrongField : ℕ → List ℕ → Type 0) (s : List ℕ) : ℕ → ℕ → Type 0 where
  too_long : message_limit < length s → FirstFault magic octets Allowed WrongField s refusals.too_long 0
  header_cut : length s ≤ message_limit → length s < length magic + 4 → FirstFault magic octets Allowed WrongField s refusals.cut 0
  other_magic : length s ≤ message_limit → (mark rest : List ℕ) → s ≡ mark ++ rest → length mark ≡ length magic → 4 ≤ length rest → (mark ≡ magic → ⊥)
      → FirstFault magic octets Allowed WrongField s refusals.magic 0
  other_size : length s ≤ message_limit → (size rest : List ℕ) → s ≡ magic ++ (size ++ rest) → length size ≡ 4
      → (big_endian size ≡ length rest → ⊥) → FirstFault magic octets Allowed WrongField s refusals.size 0
  field : length s ≤ message_limit → (k : ℕ) (size : List ℕ) (fs : List A) (rest : List ℕ) → s ≡ magic ++ (size ++ (joined octets fs ++ rest))
      → length size ≡ 4 → big_endian size ≡ length (joined octets fs ++ rest) → Each Allowed fs → WrongField k rest
      → FirstFault magic octets Allowed WrongField s k (length magic + 4 + length (joined octets fs))
