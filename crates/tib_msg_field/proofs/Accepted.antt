-- A message is accepted by the reading exactly when it is a whole message, with the same division, and it has one division.
use Prim.Native.Nat.{ℕ}
use mathlib.Core.Path.{◌≡◌}
use mathlib.Core.List.{List}
use mathlib.Core.Logic.{◌↔◌}
use Rattle.reading.specs.Reading.{accepted}
use Rattle.tib_field.proofs.Messages as messages
use Rattle.tib_msg_field.specs.Layout.{Parts, octets, Allowed, magic, Whole}
use Rattle.tib_msg_field.specs.FirstFault.{WrongField}
use Rattle.tib_msg_field.specs.Reading.{fields_from, reading}
use Rattle.tib_msg_field.proofs.Rows.{steps}

module _ (s : List ℕ) where
  -- The reading accepts a message with a division exactly where the message is whole and that is its division.
  pub accepted_exactly : (fs : List Parts) → (reading s ≡ accepted fs) ↔ Whole s fs
  unfolding reading
  accepted_exactly fs = messages.accepted_exactly magic octets Allowed WrongField fields_from steps s fs

  -- A message has one division at most.
  pub division_unique : (fs gs : List Parts) → Whole s fs → Whole s gs → fs ≡ gs
  division_unique fs gs a b = messages.division_unique magic octets Allowed WrongField fields_from steps s fs gs a b
