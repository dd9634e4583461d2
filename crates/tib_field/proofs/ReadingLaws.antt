-- Laws of a verdict, a check and a field by the reading that they come from, and of a reading by its first fault.
use Prim.Native.Nat.{ℕ, ◌<◌}
use native.Mathlib.Omega.{arith}
use mathlib.Core.Path.{◌≡◌, refl, sym, ap, ◌∙◌}
use mathlib.Core.List.{List}
use mathlib.Core.Logic.{◌↔◌}
use mathlib.Core.Option.{Option}
use Rattle.reading.specs.Reading.{Reading, accepted, refused}
use Rattle.reading.specs.internal.Verdicts.{IsAccepted, verdict_of}
use Rattle.reading.specs.Checks.{refusal, counts}
use Rattle.reading.specs.internal.Verdicts.{Accepted, Refused}
use Rattle.tib_field.specs.Kth.{field_or_absent, field_of}
use Rattle.tib_field.specs.internal.KthOf.{kth_of}

pub not_accepted : {A : Type 0} (k place : ℕ) (x : A) → refused k place ≡ accepted x → ⊥
not_accepted k place x e = let z : ◌≡◌ {A = ℕ} 0 1 = cc in absurd (omega arith)

module _ {A : Type 0} (count depth : A → ℕ) where
  pub verdict_accepted : (r : Reading A) (n d : ℕ) → verdict_of count depth r ≡ Accepted n d → IsAccepted r
  unfolding verdict_of IsAccepted
  verdict_accepted (accepted x) n d e = (x, refl)
  verdict_accepted (refused m q) n d e = let z : ◌≡◌ {A = ℕ} 0 1 = cc in absurd (omega arith)

  -- What a message is refused with is the answer for each of its fields.
  pub field_refused : {B F : Type 0} (refuse : ℕ → ℕ → F) (shown : ℕ → B → F) (fields : A → List (ℕ × B)) (k : ℕ) (r : Reading A) (n p : ℕ)
      → verdict_of count depth r ≡ Refused n p → refuse n p ≡ field_of refuse shown fields k r
  unfolding verdict_of field_of
  field_refused refuse shown fields k (accepted x) n p e = let z : ◌≡◌ {A = ℕ} 0 1 = cc in absurd (omega arith)
  field_refused refuse shown fields k (refused m q) n p e = let a : m ≡ n = cc in let b : q ≡ p = cc in rw (a, b)

  -- What the check refuses is refused with the same number and place, whichever field is asked for.
  pub refused_as_checked : {B F : Type 0} (refuse : ℕ → ℕ → F) (shown : ℕ → B → F) (fields : A → List (ℕ × B)) (k : ℕ) (r : Reading A)
      → ((counts count depth r).refusal ≡ 0 → ⊥)
      → field_of refuse shown fields k r ≡ refuse (counts count depth r).refusal (counts count depth r).place
  unfolding counts refusal field_of
  refused_as_checked refuse shown fields k (accepted x) n = absurd (n refl)
  refused_as_checked refuse shown fields k (refused number place) n = refl

  -- A check answers 0 exactly for a whole message, where the reading accepts exactly those and no refusal is 0.
  pub accepts_exactly : (Whole : A → Type 0) (r : Reading A) → ((x : A) → (r ≡ accepted x) ↔ Whole x)
      → ((k place : ℕ) → r ≡ refused k place → 0 < k) → ((counts count depth r).refusal ≡ 0) ↔ ((x : A) × Whole x)
  unfolding counts refusal
  accepts_exactly Whole r exactly positive = (λ e. go r refl e, λ w. rw ((exactly w.0).1 w.1))
    where
      go : (q : Reading A) → r ≡ q → (counts count depth q).refusal ≡ 0 → (x : A) × Whole x
      go (accepted x) f e = (x, (exactly x).0 f)
      go (refused k place) f e = let h = positive k place f in absurd (omega arith)

-- A reading that refuses exactly a message that has a first fault, with its number and its place.
module _ {A : Type 0} (r : Reading A) (Fault : ℕ → ℕ → Type 0) (refuses : (k p : ℕ) → (r ≡ refused k p) ↔ Fault k p) where
  -- A message has at most one,
  pub fault_unique : (k p j q : ℕ) → Fault k p → Fault j q → (k ≡ j) × (p ≡ q)
  fault_unique k p j q a b = let e = (refuses k p).1 a in let f = (refuses j q).1 b in (cc, cc)

  -- and one exactly where it is not whole.
  pub fault_exactly : (Whole : A → Type 0) → ((x : A) → (r ≡ accepted x) ↔ Whole x)
      → ((k : ℕ) × (p : ℕ) × Fault k p) ↔ (((x : A) × Whole x) → ⊥)
  fault_exactly Whole accepts = (
    λ a w.
        let e = (refuses a.0 a.1).1 a.2 in
        let f = (accepts w.0).1 w.1 in
        let z : ◌≡◌ {A = ℕ} 0 1 = cc in
        absurd (omega arith),
    λ none. go none r refl,
  )
    where
      go : (((x : A) × Whole x) → ⊥) → (q : Reading A) → r ≡ q → (k : ℕ) × (p : ℕ) × Fault k p
      go none (accepted x) e = absurd (none (x, (accepts x).0 e))
      go none (refused k p) e = (k, p, (refuses k p).0 e)

-- The answer of a message that is accepted is that for its k-th field.
pub field_of_kth : {A B F : Type 0} (refuse : ℕ → ℕ → F) (shown : ℕ → B → F) (fields : A → List (ℕ × B)) (k : ℕ) (r : Reading A) → IsAccepted r
    → (w : Option (ℕ × B)) → kth_of fields k r ≡ w → field_or_absent refuse shown w ≡ field_of refuse shown fields k r
unfolding IsAccepted kth_of field_of
field_of_kth refuse shown fields k r a w e = ap (field_or_absent refuse shown) (sym e) ∙ rw a.1
