-- A refusal's number is never 0, because 0 means accepted.
use Prim.Native.Nat.{ℕ, zero, suc, ◌+◌, ◌<◌}
use native.Mathlib.Omega.{arith}
use mathlib.Core.Path.{◌≡◌, subst}
use mathlib.Core.List.{List, [], ◌∷◌}
use lib.ListN.{length, take, drop}
use Rattle.octets.specs.Control.{control}
use Rattle.octets.specs.declared.Control.{Control}
use Rattle.octets.specs.declared.Control.TheVariants.{Absent, Partial, Whole}
use Rattle.table.specs.Schema.{Schema}
use Rattle.message.specs.Cut.{Cut}
use Rattle.message.specs.Reading.{Step}
use Rattle.message.specs.Reading.{Done, Fault, Over, Into}
use Rattle.reading.specs.Reading.{Reading, accepted, refused, on_accepted, in_order}
use Rattle.message.specs.Reading.{step_from, step, tag_at, Inner, after_step, fields_from, message_from}
use Rattle.message.proofs.Steps.{of_kind, of_whole}

-- A step that is refused has a number above 0.
Numbered : Step → Type 0
Numbered Done = Unit {0}
Numbered (Fault reason) = 0 < reason
Numbered (Over k l) = Unit {0}
Numbered (Into m k l) = Unit {0}

-- A step's refusal, by the control part at the front.
step_from_numbered : (sc : Schema) (levels n : ℕ) (before s : List ℕ) (c : Control) → Numbered (step_from sc levels n before s c)
unfolding Numbered
step_from_numbered sc levels n before s Absent = unfold step_from in tt
step_from_numbered sc levels n before s Partial = unfold step_from in omega arith
step_from_numbered sc levels n before s (Whole tag len size) =
    of_whole Numbered sc levels n before s tag len size (λ h. omega arith) (λ h t. omega arith) (λ h t u. omega arith)
    (λ h t u. of_kind Numbered (sc.means n tag) size (take len (drop size s)) (λ good. tt) (λ k l. omega arith) (λ k l. omega arith) (λ i m. tt))

-- A reading that is refused has a number above 0.
Told : Reading Cut → Type 0
Told (accepted cut) = Unit {0}
Told (refused reason place) = 0 < reason

on_accepted_told : (f : Cut → Cut) (r : Reading Cut) → Told r → Told (on_accepted f r)
unfolding Told on_accepted
on_accepted_told f (accepted cut) h = tt
on_accepted_told f (refused reason place) h = h

in_order_told : (f : Cut → Cut → Cut) (q r : Reading Cut) → Told q → Told r → Told (in_order f q r)
unfolding Told in_order
in_order_told f (accepted cut) r h k = on_accepted_told (f cut) r k
in_order_told f (refused reason place) r h k = h

module _ (sc : Schema) (inner : Inner) (below : (m field at : ℕ) (b : List ℕ) → Told (inner m field at b)) where
  after_told : (next : ℕ → List ℕ → Reading Cut) → ((at : ℕ) (r : List ℕ) → Told (next at r)) → (at : ℕ) (s : List ℕ) (p : Step) → Numbered p
      → Told (after_step inner next at s p)
  unfolding Told Numbered after_step
  after_told next later at s Done h = tt
  after_told next later at s (Fault reason) h = h
  after_told next later at s (Over k l) h = on_accepted_told (Cut.leaf (tag_at s) (take k s) (take l (drop k s))) (next (at + k + l) (drop (k + l) s)) (later (at + k + l) (drop (k + l) s))
  after_told next later at s (Into m k l) h =
      in_order_told (Cut.nested (tag_at s) (take k s)) (inner m at (at + k) (take l (drop k s))) (next (at + k + l) (drop (k + l) s))
      (below m at (at + k) (take l (drop k s))) (later (at + k + l) (drop (k + l) s))

  fields_told : (levels n : ℕ) (before : List ℕ) (fuel at : ℕ) (s : List ℕ) → Told (fields_from sc levels inner n before fuel at s)
  unfolding Told fields_from step
  fields_told levels n before zero at s = omega arith
  fields_told levels n before (suc fuel) at s =
      after_told (fields_from sc levels inner n (tag_at s ∷ before) fuel) (fields_told levels n (tag_at s ∷ before) fuel) at s (step sc levels n before s)
      (step_from_numbered sc levels n before s (control s))

message_told : (sc : Schema) (levels n field at : ℕ) (s : List ℕ) → Told (message_from sc levels n field at s)
unfolding Told message_from
message_told sc zero n field at s = omega arith
message_told sc (suc levels) n field at s = fields_told sc (message_from sc levels) (message_told sc levels) levels n [] (suc (length s)) at s

pub refusal_positive : (sc : Schema) (levels n field at : ℕ) (s : List ℕ) (reason place : ℕ)
    → message_from sc levels n field at s ≡ refused reason place → 0 < reason
unfolding Told
refusal_positive sc levels n field at s reason place e = subst Told e (message_told sc levels n field at s)
