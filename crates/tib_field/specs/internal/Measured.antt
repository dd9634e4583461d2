-- What a function that measures a field finds: how many octets the field has, 0 at the end of the message, or a refusal.
use Rattle.std.specs.Prelude.{ℕ, Result, Ok, Err}
use Rattle.reading.specs.declared.Refusal.{Refusal}
use Rattle.reading.specs.Refusals.{number}
use Rattle.tib_field.specs.Steps.{Step, Done, Fault, Over}

-- The step that a result says.
abbrev pub step_of : {Z : Type 0} → Result Z Refusal → Step Z
step_of (Ok z) = Over z
step_of (Err r) = Fault (number r)

-- A step with the octets of the field in place of its sizes.
unfoldable pub measured : {Z : Type 0} → (Z → ℕ) → Step Z → Step ℕ
measured total Done = Over 0
measured total (Fault k) = Fault k
measured total (Over z) = Over (total z)
