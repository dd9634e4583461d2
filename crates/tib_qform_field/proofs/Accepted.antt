-- A message is accepted by the reading exactly if it is a whole message, with the same division, and it has one division.
use Prim.Native.Nat.{ℕ}
use mathlib.Core.Path.{◌≡◌}
use mathlib.Core.List.{List}
use mathlib.Core.Logic.{◌↔◌}
use Rattle.reading.specs.Reading.{accepted}
use Rattle.tib_field.proofs.Messages as messages
use Rattle.tib_dictionary.specs.declared.Entry.{Entry}
use Rattle.tib_qform_field.specs.Layout.{Parts, octets, Allowed, magic, Whole}
use Rattle.tib_qform_field.specs.Reading.{fields_from, reading}
use Rattle.tib_qform_field.specs.FirstFault.{WrongField}
use Rattle.tib_qform_field.proofs.Steps.{steps}

module _ (es : List Entry) (s : List ℕ) where
  -- The reading accepts a message with a division exactly if the message is whole and that is its division.
  pub accepted_exactly : (fs : List Parts) → (reading es s ≡ accepted fs) ↔ Whole es s fs
  unfolding reading
  accepted_exactly = messages.accepted_exactly magic octets (Allowed es) (WrongField es) (fields_from es) (steps es) s

  -- A message has one division at most.
  pub division_unique : (fs gs : List Parts) → Whole es s fs → Whole es s gs → fs ≡ gs
  division_unique = messages.division_unique magic octets (Allowed es) (WrongField es) (fields_from es) (steps es) s

  -- What an accepted message has: fields stand after its header.
  abbrev pub Tested : List Parts → Type 0
  Tested fs = messages.Tested magic octets (Allowed es) (WrongField es) (fields_from es) (steps es) s fs

  pub accepted_tested : (fs : List Parts) → reading es s ≡ accepted fs → Tested fs
  unfolding reading
  accepted_tested = messages.accepted_tested magic octets (Allowed es) (WrongField es) (fields_from es) (steps es) s
