-- A message is refused exactly with its first fault; it has at most one; and it has one exactly if it is not whole.
use Prim.Native.Nat.{ℕ}
use mathlib.Core.Path.{◌≡◌}
use mathlib.Core.List.{List}
use mathlib.Core.Logic.{◌↔◌}
use Rattle.reading.specs.Reading.{refused}
use Rattle.tib_field.proofs.Messages as messages
use Rattle.tib_dictionary.specs.declared.Entry.{Entry}
use Rattle.tib_qform_field.specs.Layout.{Parts, octets, Allowed, magic, Whole}
use Rattle.tib_qform_field.specs.Reading.{fields_from, reading}
use Rattle.tib_qform_field.specs.FirstFault.{WrongField, FirstFault}
use Rattle.tib_qform_field.proofs.Steps.{steps}

module _ (es : List Entry) (s : List ℕ) where
  -- A message is refused with a number at a place exactly if its first fault has that number and that place.
  pub refused_exactly : (k p : ℕ) → (reading es s ≡ refused k p) ↔ FirstFault es s k p
  unfolding reading
  refused_exactly = messages.refused_exactly magic octets (Allowed es) (WrongField es) (fields_from es) (steps es) s

  -- It has at most one,
  pub first_fault_unique : (k p j q : ℕ) → FirstFault es s k p → FirstFault es s j q → (k ≡ j) × (p ≡ q)
  first_fault_unique = messages.first_fault_unique magic octets (Allowed es) (WrongField es) (fields_from es) (steps es) s

  -- and one exactly if it is not whole.
  pub fault_exactly : ((k : ℕ) × (p : ℕ) × FirstFault es s k p) ↔ (((fs : List Parts) × Whole es s fs) → ⊥)
  fault_exactly = messages.fault_exactly magic octets (Allowed es) (WrongField es) (fields_from es) (steps es) s
