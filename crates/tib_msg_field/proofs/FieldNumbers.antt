-- A field by its hint.
use Prim.Native.Nat.{ℕ, ◌+◌, ◌-◌, ◌≤◌}
use native.Mathlib.Omega.{arith}
use mathlib.Core.Path.{◌≡◌, sym, ap, ◌∙◌}
use mathlib.Core.List.{List}
use lib.ListN.{length, take, drop, length-drop}
use Rattle.octets.proofs.Slices.{tail_part}
use Rattle.tib_msg_field.specs.Reading.{HintFault, Size, hint_at, with_hint, from_data, total}
use Rattle.tib_field.specs.Steps.{Fault, Over}
use Rattle.tib_field.specs.internal.Measured.{measured}
use Rattle.tib_msg_field.proofs.Hints.{hint_few}
use Rattle.tib_msg_field.proofs.StepTests.{data_whole}

module _ (n c w l : ℕ) (s : List ℕ) (inside : l ≤ length s) where
  abbrev rest : List ℕ
  rest = take (length s - l) (drop l s)

  -- The refusal of a hint is the field's too.
  pub hint_refused : (k : ℕ) → HintFault k ≡ hint_at c l rest → Fault k ≡ measured total (from_data n c w l s)
  unfolding measured with_hint
  hint_refused k e = ap (measured total) (data_whole n c w l s inside (HintFault k) e)

  pub hint_inside : (j : ℕ) → Size j ≡ hint_at c l rest → l + j ≤ length s
  hint_inside j e =
      let q = (hint_few c l rest j (sym e)).1 in
      let a = ap length (tail_part s l) ∙ length-drop l s in
      omega arith

  pub hint_accepted : (j : ℕ) → Size j ≡ hint_at c l rest → Over (2 + n + w + l + j) ≡ measured total (from_data n c w l s)
  unfolding measured with_hint total
  hint_accepted j e = ap (measured total) (data_whole n c w l s inside (Size j) e)
