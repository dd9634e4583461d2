-- What holds of the reading of fields by steps, where a step finds just the fields that a format allows.
use Prim.Native.Nat.{ℕ, suc, ◌+◌, ◌≤◌}
use native.Mathlib.Omega.{arith}
use mathlib.Core.Path.{◌≡◌, refl, ap, ◌∙◌}
use mathlib.Core.List.{List, [], ◌∷◌, ◌++◌}
use lib.ListN.{length, length-append}
use lib.Seq.{drop_at}
use Rattle.reading.specs.Reading.{Reading, on_accepted}
use Rattle.tib_field.specs.Steps.{Step, Done, Fault, Over, after_step, fields_by}
use Rattle.tib_field.proofs.Rows as rows
use Rattle.tib_field.proofs.Rows.{Front, ended, item, wrong}

module _ {A Z : Type 0} (octets : A → List ℕ) (Allowed : A → Type 0) (WrongField : ℕ → List ℕ → Type 0) (next : List ℕ → Step Z) (total : Z → ℕ)
    (parts_at : List ℕ → Z → A) where
  -- An allowed field at the front of octets, which a step found with z.
  pub record Found (s : List ℕ) (z : Z) : Type 0 where
    pub field : A
    pub rest : List ℕ
    pub divides : s ≡ octets field ++ rest
    pub allowed : Allowed field
    pub measured : length (octets field) ≡ total z
    pub parts : parts_at s z ≡ field

  -- A step finds just the fields that are allowed, and what is wrong with others.
  pub record Exact : Type 0 where
    pub sized : (f : A) → 1 ≤ length (octets f)
    pub at_end : next [] ≡ Done
    pub done : (s : List ℕ) → next s ≡ Done → s ≡ []
    pub found : (s : List ℕ) (z : Z) → next s ≡ Over z → Found s z
    pub of_field : (f : A) (rest : List ℕ) → Allowed f → (z : Z) × (next (octets f ++ rest) ≡ Over z) × (parts_at (octets f ++ rest) z ≡ f) × (total z ≡ length (octets f))
    pub told : (s : List ℕ) (k : ℕ) → next s ≡ Fault k → WrongField k s
    pub of_wrong : (k : ℕ) (s : List ℕ) → WrongField k s → next s ≡ Fault k

  module _ (exact : Exact) where
    abbrev Good : List A → A → Type 0
    Good before = Allowed

    abbrev Wrong : List A → ℕ → List ℕ → Type 0
    Wrong before = WrongField

    abbrev Fit : List ℕ → Type 0
    Fit s = Unit {0}

    abbrev from : List A → ℕ → ℕ → List ℕ → Reading (List A)
    from before = fields_by next total parts_at

    front : (before : List A) (s : List ℕ) (p : Step Z) → next s ≡ p → Front octets Good Wrong Fit from before s
    front before s Done e = ended (exact.done s e)
    front before s (Fault k) e = wrong k (exact.told s k e)
    front before s (Over z) e = let f = exact.found s z e in item f.field f.rest f.allowed f.divides

    over : (fuel at : ℕ) (f : A) (rest : List ℕ) → Allowed f
        → fields_by next total parts_at (suc fuel) at (octets f ++ rest)
        ≡ on_accepted (λ (fs : List A). f ∷ fs) (fields_by next total parts_at fuel (at + length (octets f)) rest)
    unfolding fields_by after_step
    over fuel at f rest a =
        let z = exact.of_field f rest a in
        rw (z.1, z.2, z.3, drop_at (octets f) rest (length (octets f)) refl)

    -- What one step of the reading does, as the laws of rows ask for it.
    pub steps : rows.Steps octets Good Wrong Fit from
    unfolding fields_by after_step
    steps =
        record {
          sized = exact.sized;
          rest_fits = λ f rest u. tt;
          front = λ before s u. front before s (next s) refl;
          at_end = λ before fuel at. rw exact.at_end;
          over = λ before fuel at f rest a. over fuel at f rest a;
          fault = λ before fuel at k s w. rw (exact.of_wrong k s w);
        }

    -- A field that is found lies within the octets, and takes one of them or more.
    pub step_inside : (s : List ℕ) (z : Z) → next s ≡ Over z → (1 ≤ total z) × (total z ≤ length s)
    step_inside s z e =
        let f = exact.found s z e in
        let l = ap length f.divides ∙ length-append (octets f.field) f.rest in
        let m = f.measured in
        let k = exact.sized f.field in
        (omega arith, omega arith)
