-- The loop invariant of a traversal of fields, and what each turn of the loop does to it.
use Prim.Native.Nat.{ℕ, ◌+◌, ◌≤◌, ◌<◌}
use native.Mathlib.Omega.{arith}
use mathlib.Core.Path.{◌≡◌, refl, ap, ◌∙◌}
use mathlib.Core.List.{List, [], ◌∷◌}
use lib.ListN.{length, drop, length-drop, drop_of_length-le}
use Rattle.reading.specs.Reading.{Reading}
use Rattle.reading.specs.internal.Verdicts.{Verdict}
use Rattle.reading.specs.internal.Verdicts.{Accepted, Refused}
use Rattle.reading.proofs.Traversal as traversal
use Rattle.reading.proofs.Traversal.{Traversal}
use Rattle.tib_field.specs.Steps.{Step, Done, Fault, Over, after_step, fields_by, flat_depth}
use Rattle.tib_field.specs.internal.Measured.{measured}
use Rattle.tib_field.proofs.Steps.{Exact, step_inside}

-- The first field of the message s begins after its header.
module _ {A Z : Type 0} (octets : A → List ℕ) (Allowed : A → Type 0) (WrongField : ℕ → List ℕ → Type 0) (next : List ℕ → Step Z) (total : Z → ℕ)
    (parts_at : List ℕ → Z → A) (exact : Exact octets Allowed WrongField next total parts_at) (header : ℕ) (s : List ℕ) where
  -- The fields are read with no regard to those before them.
  abbrev from : Unit {0} → ℕ → ℕ → List ℕ → Reading (List A)
  from known = fields_by next total parts_at

  abbrev pub whole : Verdict
  whole = traversal.whole length flat_depth from tt 0 header s

  -- After i octets, with f fields so far.
  abbrev pub State : ℕ → ℕ → Type 0
  State i f = Traversal length flat_depth from tt 0 header s tt i f 1

  pub start : header ≤ length s → State header 0
  unfolding flat_depth
  start h = traversal.start length flat_depth from tt 0 header s (λ x. omega arith) h

  module _ (i f : ℕ) (now : State i f) where
    pub at_end : length s ≤ i → Accepted f 1 ≡ whole
    unfolding fields_by after_step flat_depth
    at_end h = traversal.at_end length flat_depth from tt 0 header s tt i f 1 now [] refl refl (rw (drop_of_length-le s h, exact.at_end))

    at_fault : (k : ℕ) → next (drop i s) ≡ Fault k → Refused k i ≡ whole
    unfolding fields_by after_step
    at_fault k e = traversal.at_fault length flat_depth from tt 0 header s tt i f 1 now k i (let p : 0 + i ≡ i = omega arith in rw (e, p))

    -- What a function that measures fields finds at i: a refusal, or how many octets the field has.
    pub refused_step : (k : ℕ) → Fault k ≡ measured total (next (drop i s)) → Refused k i ≡ whole
    unfolding measured
    refused_step k e = go (next (drop i s)) refl e
      where
        go : (p : Step Z) → next (drop i s) ≡ p → Fault k ≡ measured total p → Refused k i ≡ whole
        go Done g h = let z : ◌≡◌ {A = ℕ} 0 1 = cc in absurd (omega arith)
        go (Fault m) g h = let d : m ≡ k = cc in at_fault k (g ∙ ap Fault d)
        go (Over z) g h = let y : ◌≡◌ {A = ℕ} 0 1 = cc in absurd (omega arith)

    module _ (inside : i < length s) (n : ℕ) (e : Over n ≡ measured total (next (drop i s))) where
      sized : (z : Z) × (next (drop i s) ≡ Over z) × (n ≡ total z)
      unfolding measured
      sized = go (next (drop i s)) refl e
        where
          go : (p : Step Z) → next (drop i s) ≡ p → Over n ≡ measured total p → (z : Z) × (next (drop i s) ≡ Over z) × (n ≡ total z)
          go Done g h = let d = ap length (exact.done (drop i s) g) in let l = length-drop i s in absurd (omega arith)
          go (Fault k) g h = let y : ◌≡◌ {A = ℕ} 0 1 = cc in absurd (omega arith)
          go (Over z) g h = (z, g, cc)

      pub forward_step : (i < i + n) × (i + n ≤ length s)
      forward_step =
          let h = step_inside octets Allowed WrongField next total parts_at exact (drop i s) sized.0 sized.1 in
          traversal.forward length flat_depth from tt 0 header s tt i f 1 now (total sized.0) (i + n) h.0 h.1 (ap (λ (x : ℕ). i + x) sized.2)

      pub over_step : State (i + n) (f + 1)
      unfolding fields_by after_step flat_depth
      over_step =
          let z = sized.0 in
          let g = sized.1 in
          let q = sized.2 in
          let h = step_inside octets Allowed WrongField next total parts_at exact (drop i s) z g in
          traversal.over length flat_depth from tt 0 header s tt i f 1 now (total z) (i + n) h.0 h.1 (ap (λ (x : ℕ). i + x) sized.2) tt (0 + i + total z) (omega arith)
          (λ (fs : List A). parts_at (drop i s) z ∷ fs) (λ x. omega arith) (λ x. refl) (rw g)
