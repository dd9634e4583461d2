-- The loop invariant of the traversal of a message's fields, and what each turn of the loop does to it.
use Prim.Native.Nat.{ℕ, ◌+◌, ◌-◌, ◌≤◌, ◌<◌}
use mathlib.Core.Path.{◌≡◌, ap, ◌∙◌}
use mathlib.Core.List.{List}
use lib.ListN.{length, take, drop}
use Rattle.octets.proofs.Slices.{tail_part}
use Rattle.reading.specs.internal.Verdicts.{Verdict}
use Rattle.reading.specs.internal.Verdicts.{Accepted, Refused}
use Rattle.tib_field.specs.Steps.{Fault, Over}
use Rattle.tib_field.specs.internal.Measured.{measured}
use Rattle.tib_field.proofs.Traversals as traversals
use Rattle.tib_msg_field.specs.Layout.{octets, Allowed}
use Rattle.tib_msg_field.specs.FirstFault.{WrongField}
use Rattle.tib_msg_field.specs.Reading.{next_field, total, parts_at}
use Rattle.tib_msg_field.proofs.Rows.{exact}

module _ (s : List ℕ) where
  abbrev pub whole : Verdict
  whole = traversals.whole octets Allowed WrongField next_field total parts_at exact 9 s

  -- After i octets, with f fields so far.
  abbrev pub State : ℕ → ℕ → Type 0
  State i f = traversals.State octets Allowed WrongField next_field total parts_at exact 9 s i f

  pub start : 9 ≤ length s → State 9 0
  start = traversals.start octets Allowed WrongField next_field total parts_at exact 9 s

  module _ (i f : ℕ) (now : State i f) where
    pub at_end : length s ≤ i → Accepted f 1 ≡ whole
    at_end = traversals.at_end octets Allowed WrongField next_field total parts_at exact 9 s i f now

    module _ (inside : i < length s) where
      abbrev rest : List ℕ
      rest = take (length s - i) (drop i s)

      same_step : measured total (next_field rest) ≡ measured total (next_field (drop i s))
      same_step = ap (λ (r : List ℕ). measured total (next_field r)) (tail_part s i)

      pub refused_here : (k : ℕ) → Fault k ≡ measured total (next_field rest) → Refused k i ≡ whole
      refused_here k e = traversals.refused_step octets Allowed WrongField next_field total parts_at exact 9 s i f now k (e ∙ same_step)

      module _ (n : ℕ) (e : Over n ≡ measured total (next_field rest)) where
        pub forward : (i < i + n) × (i + n ≤ length s)
        forward = traversals.forward_step octets Allowed WrongField next_field total parts_at exact 9 s i f now inside n (e ∙ same_step)

        pub over_field : State (i + n) (f + 1)
        over_field = traversals.over_step octets Allowed WrongField next_field total parts_at exact 9 s i f now inside n (e ∙ same_step)
