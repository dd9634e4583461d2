-- What an answer of the check says of a dictionary and a message, without saying how they are read. proofs/Answers.antt shows, for a dictionary of
-- octets, that the check returns exactly the answer for which a case holds.
use Rattle.std.specs.Prelude.{ℕ, ◌≤◌, ◌<◌, List, length}
use Rattle.reading.specs.Reading.{message_limit}
use Rattle.reading.specs.Refusals as refusals
use Rattle.reading.specs.Checks.{refusal}
use Rattle.reading.specs.declared.Checked.{Checked}
use Rattle.tib_dictionary.specs.Records.{IsDictionary, FaultyDictionary}
use Rattle.tib_dictionary.specs.declared.Entry.{Entry}
use Rattle.tib_qform_field.specs.Layout.{Parts, Whole}
use Rattle.tib_qform_field.specs.FirstFault.{FirstFault}

-- The message is too long; the dictionary is faulty at a place; under its entries, the message has a first fault; or it is whole, and the answer
-- counts its fields.
pub data Answered (dictionary s : List ℕ) : Checked → Type 0 where
  too_long : message_limit < length s → Answered dictionary s (refusal refusals.too_long 0)
  badDictionary : length s ≤ message_limit → (place : ℕ) → FaultyDictionary dictionary place → Answered dictionary s (refusal refusals.table place)
  badMessage : length s ≤ message_limit → (es : List Entry) → IsDictionary dictionary es → (k place : ℕ) → FirstFault es s k place
      → Answered dictionary s (refusal k place)
  whole : (es : List Entry) → IsDictionary dictionary es → (fs : List Parts) → Whole es s fs
      → Answered dictionary s (record { refusal = 0; place = 0; fields = length fs; depth = 1 })
