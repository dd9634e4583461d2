-- Reading fields one after the other, over what a format finds at the front of octets.
use Rattle.std.specs.Prelude.{ℕ, zero, suc, ◌+◌, List, [], ◌∷◌, drop}
use Rattle.reading.specs.Reading.{Reading, accepted, refused, on_accepted}
use Rattle.reading.specs.Refusals as refusals

-- What is found where a field may begin: the end of the message, a bad field with its refusal, or a field. Z is what a format knows of the sizes of
-- a field.
pub data Step (Z : Type 0) : Type 0 where
  Done : Step Z
  Fault : ℕ → Step Z
  Over : Z → Step Z

-- A format gives the octets that a field takes (`total`), and its parts at the front of octets (`parts_at`).

-- The reading of the fields from a place on, by the step at the front of the octets; `later` reads the fields that follow.
unfoldable pub after_step : {A Z : Type 0} → (Z → ℕ) → (List ℕ → Z → A) → (ℕ → List ℕ → Reading (List A)) → ℕ → List ℕ → Step Z → Reading (List A)
after_step total parts_at later at s Done = accepted []
after_step total parts_at later at s (Fault refusal) = refused refusal at
after_step {A} total parts_at later at s (Over z) = on_accepted (λ (fs : List A). parts_at s z ∷ fs) (later (at + total z) (drop (total z) s))

-- The fields from a place on. The number after `parts_at` bounds the fields that are still looked at.
unfoldable pub fields_by : {A Z : Type 0} → (List ℕ → Step Z) → (Z → ℕ) → (List ℕ → Z → A) → ℕ → ℕ → List ℕ → Reading (List A)
fields_by next total parts_at zero at s = refused refusals.cut at
fields_by next total parts_at (suc fuel) at s = after_step total parts_at (fields_by next total parts_at fuel) at s (next s)

-- No field's data are read as a message, so the depth is 1.
unfoldable pub flat_depth : {A : Type 0} → List A → ℕ
flat_depth fs = 1
