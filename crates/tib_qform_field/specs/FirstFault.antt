-- What is wrong with a message that is not whole, without saying how it is read: its first fault (document 02, item 1, Refusals).
use Rattle.std.specs.Prelude.{ℕ, ◌+◌, ◌%◌, ◌<◌, ◌≡◌, true, false, List, [], ◌∷◌, length}
use Rattle.std.proofs.Math.Option.{none, some}
use Rattle.reading.specs.Refusals as refusals
use Rattle.tib_field.specs.FirstFault as messages
use Rattle.tib_dictionary.specs.Entry.{find}
use Rattle.tib_dictionary.specs.declared.Entry.{Entry}
use Rattle.tib_qform_field.specs.Layout.{flagged, fid, octets, Allowed, magic}

-- A wrong field: the refusal, and the octets from its first on to the end of the message. One octet stands where a FID should; a flag is not set;
-- the dictionary does not have the fid; or the data, or the padding after data of odd size, end too early.
pub data WrongField (es : List Entry) : ℕ → List ℕ → Type 0 where
  cut : (high : ℕ) → WrongField es refusals.cut (high ∷ [])
  unflagged : (high low : ℕ) (s : List ℕ) → flagged high ≡ false → WrongField es refusals.type_size_or_hint (high ∷ low ∷ s)
  unknown : (high low : ℕ) (s : List ℕ) → flagged high ≡ true → find es (fid high low) ≡ none → WrongField es refusals.not_in_dictionary (high ∷ low ∷ s)
  data_cut : (high low : ℕ) (s : List ℕ) (e : Entry) → flagged high ≡ true → find es (fid high low) ≡ some e → length s < e.size + e.size % 2
      → WrongField es refusals.past_the_end (high ∷ low ∷ s)

-- The first fault of octets, by its number and its place.
abbrev pub FirstFault : List Entry → List ℕ → ℕ → ℕ → Type 0
FirstFault es s k p = messages.FirstFault magic octets (Allowed es) (WrongField es) s k p
