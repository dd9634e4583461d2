-- A refusal's number is never 0, which stands for acceptance.
use Prim.Native.Nat.{ℕ, ◌<◌}
use native.Mathlib.Omega.{arith}
use mathlib.Core.Path.{◌≡◌}
use mathlib.Core.List.{List}
use Rattle.octets.specs.Number.{big_endian}
use Rattle.reading.specs.Reading.{refused}
use Rattle.tib_field.proofs.WrongNames.{of_named}
use Rattle.tib_field.proofs.Messages as messages
use Rattle.tib_msg_field.specs.Layout.{kind, octets, Allowed, magic}
use Rattle.tib_msg_field.specs.FirstFault as faults
use Rattle.tib_msg_field.specs.FirstFault.{WrongHint, WrongData, WrongSize, WrongType, WrongField}
use Rattle.tib_msg_field.specs.Reading.{fields_from, reading}
use Rattle.tib_msg_field.proofs.Rows.{steps}

hint_positive : (kind size k : ℕ) (s : List ℕ) → WrongHint kind size k s → 0 < k
hint_positive kind size k s (faults.cut r h) = omega arith
hint_positive kind size k s (faults.bad t n r h) = omega arith
hint_positive kind size k s (faults.value_cut t n r more h g) = omega arith

data_positive : (c size k : ℕ) (s : List ℕ) → WrongData c size k s → 0 < k
data_positive c size k s (faults.cut r h) = omega arith
data_positive c size k s (faults.hint j contents r e f h) = hint_positive (kind c) size j r h

size_positive : (c k : ℕ) (s : List ℕ) → WrongSize c k s → 0 < k
size_positive c k s (faults.cut r h) = omega arith
size_positive c k s (faults.bad size r e h) = omega arith
size_positive c k s (faults.later j size r e t h) = data_positive c (big_endian size) j r h

type_positive : (k : ℕ) (s : List ℕ) → WrongType k s → 0 < k
type_positive k s faults.missing = omega arith
type_positive k s (faults.bad c r h) = omega arith
type_positive k s (faults.later j c r g h) = size_positive c j r h

-- A message is never refused with 0.
pub refusal_positive : (s : List ℕ) (k place : ℕ) → reading s ≡ refused k place → 0 < k
unfolding reading
refusal_positive s =
    messages.refusal_positive magic octets Allowed WrongField fields_from steps s
    (of_named WrongType (λ (i : ℕ). 0 < i) (omega arith) (omega arith) type_positive)
