-- The check refuses a message that is not whole with its first fault.
use Prim.Native.Nat.{ℕ}
use mathlib.Core.Path.{◌≡◌}
use mathlib.Core.List.{List}
use Rattle.reading.specs.Checks.{refusal, counts}
use Rattle.tib_rv_field.specs.FirstFault.{FirstFault}
use Rattle.tib_rv_field.proofs.FirstFault.{refused_exactly}
use Rattle.tib_rv.specs.CheckAndField.{check}

pub fault_checked : (s : List ℕ) (k p : ℕ) → FirstFault s k p → check s ≡ record { refusal = k; place = p; fields = 0; depth = 0 }
unfolding check counts refusal
fault_checked s k p f = rw ((refused_exactly s k p).1 f)
