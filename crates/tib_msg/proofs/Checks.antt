-- What the check answers: it accepts exactly the whole messages, and counts the fields of their division.
use Prim.Native.Nat.{ℕ}
use mathlib.Core.Path.{◌≡◌}
use mathlib.Core.List.{List}
use mathlib.Core.Logic.{◌↔◌}
use lib.ListN.{length}
use Rattle.reading.specs.Checks.{counts}
use Rattle.tib_field.specs.Refused.{refused_field}
use Rattle.tib_field.proofs.ReadingLaws.{refused_as_checked as field-refused-as-checked, accepts_exactly}
use Rattle.tib_msg_field.specs.Layout.{Parts, Whole}
use Rattle.tib_msg_field.specs.Reading.{reading}
use Rattle.tib_msg_field.proofs.Accepted.{accepted_exactly}
use Rattle.tib_msg_field.proofs.Refusals.{refusal_positive}
use Rattle.tib_field.specs.Steps.{flat_depth}
use Rattle.tib_msg.specs.CheckAndField.{check, shown, places, field}

module _ (s : List ℕ) where
  -- The counts of a whole message are its division's.
  pub counts_are_division : (fs : List Parts) → Whole s fs → check s ≡ record { refusal = 0; place = 0; fields = length fs; depth = 1 }
  unfolding check counts flat_depth
  counts_are_division fs w = rw ((accepted_exactly s fs).1 w)

  -- 0 is answered exactly for a whole message.
  pub check_accepts_exactly : ((check s).refusal ≡ 0) ↔ ((fs : List Parts) × Whole s fs)
  unfolding check
  check_accepts_exactly = accepts_exactly length flat_depth (Whole s) (reading s) (accepted_exactly s) (refusal_positive s)

  -- What the check refuses is refused with the same number and place, whichever field is asked for.
  pub refused_as_checked : (k : ℕ) → ((check s).refusal ≡ 0 → ⊥) → field s k ≡ refused_field (check s).refusal (check s).place
  unfolding check field
  refused_as_checked k n = field-refused-as-checked length flat_depth refused_field shown places k (reading s) n
