-- `repeat_fault` tests whether the field is a message where none may be nested.
use Prim.Native.Nat.{ℕ, ◌≤◌, ◌<◌}
use native.Mathlib.Omega.{arith}
use mathlib.Core.Path.{◌≡◌, refl}
use mathlib.Core.Bool.{cond}
use Rattle.reading.specs.Refusals as refusals
use Rattle.table_index.specs.internal.Cells.{code_in, meaning_in}
use Rattle.message.specs.Reading.{too_deep}
use Rattle.message_field.proofs.Nexts.{deep_plain, deep_message, deep_never}
use Rattle.message_field.proofs.repeat_fault.Goals as goal
use Rattle.message_field.proofs.repeat_fault.Goals.{else-nested-eq0-via-then-nested-eq0+else-code-gt4, else-nested-eq0-via-else-nested-eq0}

module _ (nested cell : ℕ) where
  deep : nested ≡ 0 → 4 < code_in cell → refusals.too_deep ≡ cond (too_deep nested (meaning_in cell)) refusals.too_deep refusals.repeated
  unfolding meaning_in
  deep z h = rw (z, deep_message (code_in cell) h) refl

  plain : code_in cell ≤ 4 → refusals.repeated ≡ cond (too_deep nested (meaning_in cell)) refusals.too_deep refusals.repeated
  unfolding meaning_in
  plain h = rw (deep_plain nested (code_in cell) h) refl

  some : (nested ≡ 0 → ⊥) → refusals.repeated ≡ cond (too_deep nested (meaning_in cell)) refusals.too_deep refusals.repeated
  some z = rw (deep_never nested (meaning_in cell) (omega (arith, z))) refl

pub returns-then-code-gt4 : goal.returns-then-code-gt4
returns-then-code-gt4 c =
    let b = c in
    let k = c.code.ensures in
    deep b.args.nested b.args.cell c.if-nested-eq0.true (rw (← k) (c.if-code-gt4.true))

pub returns : goal.returns
returns c =
    let a = c.args in
    elim c.else-nested-eq0.branch [
      | else-nested-eq0-via-then-nested-eq0+else-code-gt4 w ↦ plain a.nested a.cell (rw (← w.code.ensures) w.if-code-gt4.false)
      | else-nested-eq0-via-else-nested-eq0 w ↦ some a.nested a.cell w.if-nested-eq0.false
    ]
