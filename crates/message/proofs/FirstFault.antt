-- A message is refused exactly with its first fault; it has at most one; and it has one exactly where it has no good cut.
use Prim.Native.Nat.{ℕ, suc, ◌+◌}
use native.Mathlib.Omega.{arith}
use mathlib.Core.Path.{◌≡◌, ap, ap₂, ◌∙◌}
use mathlib.Core.List.{List, []}
use mathlib.Core.Logic.{◌↔◌, ◌⊎◌, inl, inr, ⊎_elim}
use Rattle.octets.specs.Number.{Octets}
use Rattle.table.specs.Schema.{Schema}
use Rattle.reading.specs.Reading.{refused, depth_limit}
use Rattle.message.specs.Cut.{Cut, Good}
use Rattle.message.specs.FirstFault.{Fault, fault_refusal, fault_place, FirstFault}
use Rattle.message.specs.Reading.{message_from, reading}
use Rattle.message.proofs.Accepted.{accepted_good, good_accepted}
use Rattle.message.proofs.Search.{Search, whole, faulty, search, Agree, search_agrees, first_searched}

module _ (sc : Schema) (levels n : ℕ) (s : List ℕ) (o : Octets s) where
  -- Octets have at most one first fault.
  pub first_fault_unique : (f g : Fault) → FirstFault sc (suc levels) n s f → FirstFault sc (suc levels) n s g → f ≡ g
  first_fault_unique f g a b =
      let p = first_searched sc levels n s f o a in
      let q = first_searched sc levels n s g o b in
      cc

  first_refused : (f : Fault) → FirstFault sc (suc levels) n s f → message_from sc (suc levels) n 0 0 s ≡ refused (fault_refusal f) (fault_place f)
  unfolding Agree
  first_refused f a = go (search sc (suc levels) n s) (first_searched sc levels n s f o a) (search_agrees sc (suc levels) n 0 0 s (omega arith) o)
    where
      go : (x : Search) → x ≡ faulty f → Agree sc (suc levels) n [] 0 s (message_from sc (suc levels) n 0 0 s) x
          → message_from sc (suc levels) n 0 0 s ≡ refused (fault_refusal f) (fault_place f)
      go (whole cut) e h = let z : ◌≡◌ {A = ℕ} 0 1 = cc in absurd (omega arith)
      go (faulty g) e h =
          let q : g ≡ f = cc in
          h.0 ∙ ap₂ refused (ap fault_refusal q) (omega arith ∙ ap fault_place q)

  -- Octets have a good cut or a first fault,
  pub cut_or_fault : ((cut : Cut) × Good sc (suc levels) n s cut) ⊎ ((f : Fault) × FirstFault sc (suc levels) n s f)
  unfolding Agree
  cut_or_fault = go (search sc (suc levels) n s) (search_agrees sc (suc levels) n 0 0 s (omega arith) o)
    where
      go : (x : Search) → Agree sc (suc levels) n [] 0 s (message_from sc (suc levels) n 0 0 s) x
          → ((cut : Cut) × Good sc (suc levels) n s cut) ⊎ ((f : Fault) × FirstFault sc (suc levels) n s f)
      go (whole cut) h = inl (cut, accepted_good sc (suc levels) n 0 0 s cut h)
      go (faulty f) h = inr (f, record { divides = h.1; leads = h.2 })

  -- and never both.
  pub cut_no_fault : (cut : Cut) (f : Fault) → Good sc (suc levels) n s cut → FirstFault sc (suc levels) n s f → ⊥
  cut_no_fault cut f g a =
      let p = good_accepted sc (suc levels) n 0 0 s cut g in
      let q = first_refused f a in
      let z : ◌≡◌ {A = ℕ} 0 1 = cc in
      absurd (omega arith)

  -- They have a first fault exactly where they have no good cut.
  pub fault_exactly : ((f : Fault) × FirstFault sc (suc levels) n s f) ↔ (((cut : Cut) × Good sc (suc levels) n s cut) → ⊥)
  fault_exactly = (λ a c. cut_no_fault c.0 a.0 c.1 a.1, λ none. ⊎_elim (λ c. absurd (none c)) (λ a. a) cut_or_fault)

  fault_of_refused : (k p : ℕ) → message_from sc (suc levels) n 0 0 s ≡ refused k p
      → (f : Fault) × FirstFault sc (suc levels) n s f × (fault_refusal f ≡ k) × (fault_place f ≡ p)
  unfolding Agree
  fault_of_refused k p e = go (search sc (suc levels) n s) (search_agrees sc (suc levels) n 0 0 s (omega arith) o)
    where
      go : (x : Search) → Agree sc (suc levels) n [] 0 s (message_from sc (suc levels) n 0 0 s) x
          → (f : Fault) × FirstFault sc (suc levels) n s f × (fault_refusal f ≡ k) × (fault_place f ≡ p)
      go (whole cut) h = let z : ◌≡◌ {A = ℕ} 0 1 = cc in absurd (omega arith)
      go (faulty f) h =
          let a = h.0 in
          let q : 0 + fault_place f ≡ p = cc in
          (f, record { divides = h.1; leads = h.2 }, cc, omega arith)

-- A message is refused with a number at a place exactly where its first fault has that number and that place.
pub refused_exactly : (sc : Schema) (n : ℕ) (s : List ℕ) → Octets s → (k p : ℕ)
    → (reading sc n s ≡ refused k p) ↔ ((f : Fault) × FirstFault sc depth_limit n s f × (fault_refusal f ≡ k) × (fault_place f ≡ p))
unfolding reading
refused_exactly sc n s o k p = (
  fault_of_refused sc 7 n s o k p,
  λ a. first_refused sc 7 n s o a.0 a.1 ∙ ap₂ refused a.2 a.3,
)
