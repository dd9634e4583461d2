-- Verdicts with the counts of earlier fields added, and what each kind of field adds to the verdict through the fields after it.
use Prim.Native.Nat.{ℕ, suc, ◌+◌, ◌≤◌, max}
use native.Mathlib.Omega.{arith}
use mathlib.Core.Path.{◌≡◌, refl, ap₂}
use Rattle.reading.specs.internal.Verdicts.{Verdict}
use Rattle.reading.specs.internal.Verdicts.{Accepted, Refused}
use Rattle.reading.specs.Reading.{Reading, accepted, refused, on_accepted, in_order}
use Rattle.reading.specs.internal.Verdicts.{verdict_of}

-- A verdict after fields of this count and depth.
unfoldable pub after : ℕ → ℕ → Verdict → Verdict
after f d (Accepted g e) = Accepted (f + g) (max d e)
after f d (Refused reason place) = Refused reason place

pub after_after : (f d g e : ℕ) (w : Verdict) → after f d (after g e w) ≡ after (f + g) (max d e) w
unfolding after
after_after f d g e (Accepted h k) = ap₂ Accepted (omega arith) (omega arith)
after_after f d g e (Refused reason place) = refl

-- A division by its count of fields and its depth.
module _ {A : Type 0} (count depth : A → ℕ) where
  -- No fields before, in a message that has depth 1 or more.
  pub after_none : ((x : A) → 1 ≤ depth x) → (r : Reading A) → after 0 1 (verdict_of count depth r) ≡ verdict_of count depth r
  unfolding after verdict_of
  after_none deep (accepted x) = let h = deep x in ap₂ Accepted (omega arith) (omega arith)
  after_none deep (refused reason place) = refl

  -- A field that holds no message.
  pub verdict_over : (f : A → A) → ((x : A) → count (f x) ≡ 1 + count x) → ((x : A) → depth (f x) ≡ depth x) → (r : Reading A)
      → verdict_of count depth (on_accepted f r) ≡ after 1 0 (verdict_of count depth r)
  unfolding after verdict_of on_accepted
  verdict_over f counted deep (accepted x) = let a = counted x in let b = deep x in ap₂ Accepted (omega arith) (omega arith)
  verdict_over f counted deep (refused reason place) = refl

  -- A field that holds a message with g fields, of depth d.
  pub verdict_into : (f : A → A → A) → ((i x : A) → count (f i x) ≡ 1 + count i + count x)
      → ((i x : A) → depth (f i x) ≡ max (suc (depth i)) (depth x)) → (q : Reading A) (g d : ℕ) (r : Reading A)
      → verdict_of count depth q ≡ Accepted g d → verdict_of count depth (in_order f q r) ≡ after (1 + g) (suc d) (verdict_of count depth r)
  unfolding after verdict_of on_accepted in_order
  verdict_into f counted deep (accepted i) g d (accepted x) e =
      let p : count i ≡ g = cc in
      let q : depth i ≡ d = cc in
      let a = counted i x in
      let b = deep i x in
      ap₂ Accepted (omega arith) (omega arith)
  verdict_into f counted deep (accepted i) g d (refused reason place) e = refl
  verdict_into f counted deep (refused reason place) g d r e = let z : ◌≡◌ {A = ℕ} 0 1 = cc in absurd (omega arith)

  -- A field that holds a message that is refused.
  pub verdict_refused : (f : A → A → A) (q : Reading A) (reason place : ℕ) (r : Reading A) → verdict_of count depth q ≡ Refused reason place
      → verdict_of count depth (in_order f q r) ≡ Refused reason place
  unfolding verdict_of in_order
  verdict_refused f (accepted i) reason place r e = let z : ◌≡◌ {A = ℕ} 0 1 = cc in absurd (omega arith)
  verdict_refused f (refused k p) reason place r e = e
