-- What the check answers: it accepts exactly the whole messages, and counts the fields and the depth of their division.
use Prim.Native.Nat.{ℕ}
use mathlib.Core.Path.{◌≡◌}
use mathlib.Core.List.{List}
use mathlib.Core.Logic.{◌↔◌}
use Rattle.reading.specs.Checks.{counts}
use Rattle.tib_field.specs.Refused.{refused_field}
use Rattle.tib_field.proofs.ReadingLaws.{refused_as_checked as field-refused-as-checked, accepts_exactly}
use Rattle.tib_rv_field.specs.Layout.{Fields, depth, Whole}
use Rattle.tib_rv_field.specs.Reading.{reading}
use Rattle.tib_rv_field.proofs.Accepted.{whole_accepted, accepted_exactly}
use Rattle.tib_rv_field.proofs.Refusals.{refusal_positive}
use Rattle.tib_rv.specs.CheckAndField.{count, check, shown, places, field}

module _ (s : List ℕ) where
  -- The counts of a whole message are its division's, over all depths.
  pub counts_are_division : (fields : Fields) → Whole s fields
      → check s ≡ record { refusal = 0; place = 0; fields = count fields; depth = depth fields }
  unfolding check counts
  counts_are_division fields w = rw (whole_accepted s fields w)

  -- 0 is answered exactly for a whole message.
  pub check_accepts_exactly : ((check s).refusal ≡ 0) ↔ ((fields : Fields) × Whole s fields)
  unfolding check
  check_accepts_exactly = accepts_exactly count depth (Whole s) (reading s) (accepted_exactly s) (refusal_positive s)

  -- What the check refuses is refused with the same number and place, whichever field is asked for.
  pub refused_as_checked : (k : ℕ) → ((check s).refusal ≡ 0 → ⊥) → field s k ≡ refused_field (check s).refusal (check s).place
  unfolding check field
  refused_as_checked k n = field-refused-as-checked count depth refused_field shown places k (reading s) n
