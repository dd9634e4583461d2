-- A step of the reading refuses exactly the fields that are wrong.
use Prim.Native.Nat.{ℕ, zero, suc, ◌+◌, ◌-◌, ◌<◌}
use native.Mathlib.Omega.{arith}
use mathlib.Core.Path.{◌≡◌, refl, ◌∙◌, subst}
use mathlib.Core.Bool.{Bool, true, false, cond, and-false}
use mathlib.Core.List.{List, ◌++◌}
use mathlib.Core.Logic.{◌⊎◌, ⊎_elim}
use lib.ListN.{length, take, drop, length-append, length-drop, take-append-drop}
use lib.Seq.{take_at, drop_at}
use lib.Dec.{leb, eqb}
use borrow.Author.Tests.{lt-leb}
use Rattle.octets.specs.Number.{Octets}
use Rattle.octets.specs.Text.{text}
use Rattle.octets.specs.Utf8.{IsText}
use Rattle.octets.specs.Control.{control}
use Rattle.octets.specs.declared.Control.{Control}
use Rattle.octets.specs.declared.Control.TheVariants.{Absent, Partial, Whole}
use Rattle.octets.specs.ControlPart.{ControlPart}
use Rattle.octets.proofs.ControlPart.{part_of_control, part_read}
use Rattle.octets.proofs.CutControl.{cut_exactly, cut_read}
use Rattle.octets.proofs.Text.{text_exactly}
use Rattle.table.specs.Entry.{kind_number}
use Rattle.table.specs.Schema.{Schema}
use Rattle.table.specs.declared.Meaning.{Meaning}
use Rattle.table.specs.declared.Meaning.TheVariants.{Uint, Int, Text}
use Rattle.message.specs.Reading.{Step}
use Rattle.message.specs.Reading as steps
use Rattle.message.specs.Cut.{WholeField}
use Rattle.message.specs.Single.{repeats}
use Rattle.message.specs.FirstFault as faults
use Rattle.message.specs.FirstFault.{Wrong, ends_early, past_the_end, repeated, too_wide, no_text, wrong_refusal, wrong_octets, IsWrong}
use Rattle.message.specs.Reading.{step_by_kind, too_deep, step_from, step}
use Rattle.message.proofs.Steps.{split_in_three, deep_is, message_fits, not_deep, of_kind, of_whole, whole_at, found, found_fresh, field_control, in_three}

-- A whole field that is wrong, by its refusal.
unfoldable pub wrong_field : ℕ → ℕ → List ℕ → List ℕ → List ℕ → Wrong
wrong_field k =
    cond (eqb k 5) faults.too_deep
    (cond (eqb k 20) repeated
    (cond (eqb k 6) too_wide
    no_text))

-- The field at the front of octets that a step refuses with a number.
unfoldable pub wrong_in : List ℕ → ℕ → Control → Wrong
wrong_in s k Absent = ends_early s
wrong_in s k Partial = ends_early s
wrong_in s k (Whole tag len size) =
    cond (eqb k 4) (past_the_end tag len (take size s) (drop size s)) (wrong_field k tag (take size s) (take len (drop size s)) (drop (size + len) s))

unfoldable pub wrong_at : List ℕ → ℕ → Wrong
wrong_at s k = wrong_in s k (control s)

-- It is what the octets begin with, it has that number, and it is wrong.
pub record Blames (sc : Schema) (levels n : ℕ) (before s : List ℕ) (k : ℕ) (w : Wrong) : Type 0 where
  pub is : wrong_octets w ≡ s
  pub reason : wrong_refusal w ≡ k
  pub wrong : IsWrong sc levels n before w

-- ---- what a step refuses is wrong

module _ (sc : Schema) (levels n : ℕ) (before s : List ℕ) where
  -- What a step that refuses says of the octets.
  StepBlames : (ℕ → Wrong) → Step → Type 0
  StepBlames at steps.Done = Unit {0}
  StepBlames at (steps.Fault k) = Blames sc (suc levels) n before s k (at k)
  StepBlames at (steps.Over k l) = Unit {0}
  StepBlames at (steps.Into m k l) = Unit {0}

  -- By the control part at the front.
  from_blames : Octets s → (c : Control) → control s ≡ c → StepBlames (λ (k : ℕ). wrong_in s k c) (step_from sc levels n before s c)
  unfolding StepBlames wrong_in wrong_field wrong_octets wrong_refusal IsWrong
  from_blames o Absent e = unfold step_from in tt
  from_blames o Partial e = unfold step_from in record { is = refl; reason = refl; wrong = (cut_exactly s o).0 e }
  from_blames o (Whole tag len size) e =
      let at : ℕ → Wrong = λ k. wrong_in s k (Whole tag len size) in
      let kind = sc.means n tag in
      let three = split_in_three size len s in
      of_whole (StepBlames at) sc levels n before s tag len size
      (λ h.
      let d = length-drop size s in
      record { is = take-append-drop size s; reason = refl; wrong = (part_of_control s tag len size e, omega arith) })
      (λ h t.
      let d = deep_is levels kind t in
      let z = d.0 in
      record { is = three; reason = refl; wrong = ((d.1.0, record { whole = (whole_at s tag len size e h).1; allowed = d.1.1 }), omega arith) })
      (λ h t u.
      record { is = three; reason = refl; wrong = ((whole_at s tag len size e h).1, u, λ m f. let l = message_fits levels kind m t f in omega arith) })
      (λ h t u.
      let w = (whole_at s tag len size e h).1 in
      of_kind (StepBlames at) kind size (take len (drop size s)) (λ good. tt)
      (λ k wide. record { is = three; reason = refl; wrong = (w, k, wide, u) })
      (λ k bad. record { is = three; reason = refl; wrong = (w, k, bad, u) })
      (λ i m. tt))

  -- What a step refuses is wrong.
  pub step_blames : Octets s → (k : ℕ) → step sc levels n before s ≡ steps.Fault k → Blames sc (suc levels) n before s k (wrong_at s k)
  unfolding step StepBlames wrong_at
  step_blames o k e = subst (StepBlames (wrong_at s)) e (from_blames o (control s) refl)

-- ---- what is wrong is refused by a step

-- What a step finds at a field that is wrong.
pub record Refused (sc : Schema) (levels n : ℕ) (before : List ℕ) (w : Wrong) : Type 0 where
  pub stepped : step sc levels n before (wrong_octets w) ≡ steps.Fault (wrong_refusal w)
  pub same : wrong_at (wrong_octets w) (wrong_refusal w) ≡ w

module _ (sc : Schema) (levels n : ℕ) (before : List ℕ) where
  -- A control part that ends too early.
  early_refused : (s : List ℕ) → control s ≡ Partial → Refused sc levels n before (ends_early s)
  unfolding step step_from wrong_at wrong_in wrong_octets wrong_refusal
  early_refused s e = record { stepped = rw e; same = rw e }

  -- A field that ends past the message.
  past_refused : (tag len : ℕ) (part after : List ℕ) → ControlPart tag len part → length after < len → Refused sc levels n before (past_the_end tag len part after)
  unfolding step step_from wrong_at wrong_in wrong_octets wrong_refusal
  past_refused tag len part after p h =
      let s = part ++ after in
      let k = part_read tag len part p after in
      let l = length-append part after in
      let t = lt-leb len (length s - length part) (omega arith) in
      record { stepped = rw (k, t); same = rw (k, take_at part after (length part) refl, drop_at part after (length part) refl) }

  module _ (tag : ℕ) (part contents after : List ℕ) (w : WholeField tag part contents) where
    -- A whole field at the front is the one that a step with a number refuses.
    same_field : (k : ℕ) → eqb k 4 ≡ false → wrong_at (part ++ contents ++ after) k ≡ wrong_field k tag part contents after
    unfolding wrong_at wrong_in
    same_field k e = let p = in_three part contents after in rw (field_control tag part contents after w, e, p.first, p.second, p.third)

    -- A message that is too deep.
    deep_refused : too_deep levels (sc.means n tag) ≡ true → Refused sc levels n before (faults.too_deep tag part contents after)
    unfolding wrong_field wrong_octets wrong_refusal
    deep_refused e = record { stepped = found sc levels n before tag part contents after w ∙ rw e; same = same_field 5 refl }

    -- A single field that is repeated.
    repeated_refused : too_deep levels (sc.means n tag) ≡ false → repeats sc n before tag ≡ true → Refused sc levels n before (repeated tag part contents after)
    unfolding wrong_field wrong_octets wrong_refusal
    repeated_refused e f = record { stepped = found sc levels n before tag part contents after w ∙ rw (e, f); same = same_field 20 refl }

    module _ (fresh : repeats sc n before tag ≡ false) where
      -- A number that is too wide.
      wide_refused : (sc.means n tag ≡ Uint) ⊎ (sc.means n tag ≡ Int) → 8 < length contents → Refused sc levels n before (too_wide tag part contents after)
      unfolding too_deep kind_number step_by_kind wrong_field wrong_octets wrong_refusal
      wide_refused e h =
          let none = and-false (eqb levels 0) in
          record { stepped = ⊎_elim (wide Uint none refl) (wide Int none refl) e; same = same_field 6 refl }
        where
          wide : (k : Meaning) → too_deep levels k ≡ false
              → step_by_kind k (length part) contents ≡ cond (leb (length contents) 8) (steps.Over (length part) (length contents)) (steps.Fault 6)
              → sc.means n tag ≡ k → step sc levels n before (part ++ contents ++ after) ≡ steps.Fault 6
          wide k shallow f e = found_fresh sc levels n before k tag part contents after w e shallow fresh ∙ f ∙ rw (lt-leb (length contents) 8 h)

      -- Octets of a text field that are not text.
      text_refused : sc.means n tag ≡ Text → (IsText contents → ⊥) → Refused sc levels n before (no_text tag part contents after)
      unfolding too_deep kind_number step_by_kind wrong_field wrong_octets wrong_refusal
      text_refused e h =
          record {
            stepped =
                found_fresh sc levels n before Text tag part contents after w e (and-false (eqb levels 0)) fresh ∙ rw (failed (text contents) refl);
            same = same_field 7 refl;
          }
        where
          failed : (t : Bool) → text contents ≡ t → text contents ≡ false
          failed true f = absurd (h ((text_exactly contents).0 f))
          failed false f = f

-- A field that is wrong is refused.
pub wrong_refused : (sc : Schema) (levels n : ℕ) (before : List ℕ) (w : Wrong) → IsWrong sc (suc levels) n before w → Refused sc levels n before w
unfolding IsWrong
wrong_refused sc levels n before (ends_early s) h = early_refused sc levels n before s (cut_read s h)
wrong_refused sc levels n before (past_the_end tag len part after) h = past_refused sc levels n before tag len part after h.0 h.1
wrong_refused sc zero n before (faults.too_deep tag part contents after) h =
    let f = h.0.1 in
    deep_refused sc zero n before tag part contents after f.whole (unfold too_deep kind_number in rw f.allowed)
wrong_refused sc (suc levels) n before (faults.too_deep tag part contents after) h = let e = h.1 in absurd (omega arith)
wrong_refused sc levels n before (repeated tag part contents after) h =
    repeated_refused sc levels n before tag part contents after h.0
    (not_deep levels (sc.means n tag) (λ m e. let l = h.2 m e in omega arith)) h.1
wrong_refused sc levels n before (too_wide tag part contents after) h = wide_refused sc levels n before tag part contents after h.0 h.3 h.1 h.2
wrong_refused sc levels n before (no_text tag part contents after) h = text_refused sc levels n before tag part contents after h.0 h.3 h.1 h.2
