-- A refusal's number is never 0, which stands for acceptance.
use Prim.Native.Nat.{ℕ, ◌<◌}
use native.Mathlib.Omega.{arith}
use mathlib.Core.Path.{◌≡◌}
use mathlib.Core.List.{List}
use Rattle.reading.specs.Reading.{refused}
use Rattle.tib_field.proofs.Messages as messages
use Rattle.tib_dictionary.specs.declared.Entry.{Entry}
use Rattle.tib_qform_field.specs.Layout.{octets, Allowed, magic}
use Rattle.tib_qform_field.specs.Reading.{fields_from, reading}
use Rattle.tib_qform_field.specs.FirstFault.{WrongField, cut, unflagged, unknown, data_cut}
use Rattle.tib_qform_field.proofs.Steps.{steps}

wrong_positive : (es : List Entry) (k : ℕ) (s : List ℕ) → WrongField es k s → 0 < k
wrong_positive es k s (cut high) = omega arith
wrong_positive es k s (unflagged high low r f) = omega arith
wrong_positive es k s (unknown high low r f n) = omega arith
wrong_positive es k s (data_cut high low r e f n h) = omega arith

-- A message is never refused with 0.
pub refusal_positive : (es : List Entry) (s : List ℕ) (k p : ℕ) → reading es s ≡ refused k p → 0 < k
unfolding reading
refusal_positive es s = messages.refusal_positive magic octets (Allowed es) (WrongField es) (fields_from es) (steps es) s (wrong_positive es)
