-- A message is refused exactly with its first fault; it has at most one; and it has one exactly where it is not whole.
use Prim.Native.Nat.{ℕ}
use mathlib.Core.Path.{◌≡◌}
use mathlib.Core.List.{List}
use mathlib.Core.Logic.{◌↔◌}
use Rattle.reading.specs.Reading.{refused}
use Rattle.tib_field.proofs.Messages as messages
use Rattle.tib_msg_field.specs.Layout.{Parts, octets, Allowed, magic, Whole}
use Rattle.tib_msg_field.specs.FirstFault.{WrongField, FirstFault}
use Rattle.tib_msg_field.specs.Reading.{fields_from, reading}
use Rattle.tib_msg_field.proofs.Rows.{steps}

module _ (s : List ℕ) where
  -- A message is refused with a number at a place exactly where its first fault has that number and that place.
  pub refused_exactly : (k p : ℕ) → (reading s ≡ refused k p) ↔ FirstFault s k p
  unfolding reading
  refused_exactly k p = messages.refused_exactly magic octets Allowed WrongField fields_from steps s k p

  -- It has at most one,
  pub first_fault_unique : (k p j q : ℕ) → FirstFault s k p → FirstFault s j q → (k ≡ j) × (p ≡ q)
  first_fault_unique k p j q a b = messages.first_fault_unique magic octets Allowed WrongField fields_from steps s k p j q a b

  -- and one exactly where it is not whole.
  pub fault_exactly : ((k : ℕ) × (p : ℕ) × FirstFault s k p) ↔ (((fs : List Parts) × Whole s fs) → ⊥)
  fault_exactly = messages.fault_exactly magic octets Allowed WrongField fields_from steps s
