-- `field_at` forgets why there is no field.
use mathlib.Core.Path.{◌≡◌, refl, sym, ◌∙◌}
use mathlib.Core.List.{List}
use lib.ListN.{length, take, drop}
use lib.Seq.{take-length}
use Prim.Native.Nat.{ℕ}
use Rattle.std.specs.Prelude.{Option, Some, None, MatchOption, Result}
use Rattle.std.specs.Result.{result_unwrap_or}
use Rattle.reading.specs.declared.Refusal.{Refusal}
use Rattle.message_field.specs.declared.Head as code
use Rattle.message_field.specs.internal.Heads.{Field, Fieldless, head_of, head_at}
use Rattle.message_field.proofs.Heads.{found_field, found_none}
use Rattle.message_field.proofs.field_at.Goals as goal

module _ (s : List ℕ) (i : ℕ) (r : Result (Option code.Head) Refusal) (e : head_of r ≡ head_at i (drop i (take (length s) s))) where
  here : head_of r ≡ head_at i (drop i s)
  here = e ∙ rw (take-length s) refl

  found : (o : Option code.Head) → o ≡ result_unwrap_or r None
      → MatchOption o (Fieldless (head_at i (drop i s))) (λ h. head_at i (drop i s) ≡ Field h.tag h.start h.end)
  found None f = rw (← here) (found_none r f)
  found (Some h) f = sym here ∙ found_field r h f

pub returns : goal.returns
returns c = found c.args.s.now c.args.i c.head_at.result c.head_at.ensures c.unwrap_or.result c.unwrap_or.ensures
