-- Programs in the place of tib_qform::check_loaded and tib_qform::field_loaded that accept a dictionary value which the loader cannot return.
use Prim.Native.Nat.{ℕ}
use mathlib.Core.Path.{◌≡◌, refl, sym, ap, ◌∙◌}
use mathlib.Core.Bool.{Bool, true, false, and-false}
use lib.ListN.{length}
use lib.Dec.{eqb}
use borrow.Author.Tests.{eqb-true, eqb-false}
use Rattle.reading.specs.declared.Checked.{Checked}
use Rattle.tib_dictionary.specs.Load.{Loadable}
use Rattle.tib_dictionary.proofs.Valid.{valid_exactly}
use Rattle.tib_qform.specs.CheckAndField as calls
use Rattle.tib_qform.specs.declared.types.FieldAnswer.{FieldAnswer}
use Rattle.tib_qform.proofs.Checks.{loaded_accepts_exactly, loaded_refused_as_checked}
use Rattle.wrong_programs.specs.Kinds as kinds
use Rattle.wrong_programs.specs.Kinds.{RuledOut, AcceptsSome}
use Rattle.wrong_programs.specs.Qform.{value_fits, ValueCall, check_loaded, field_loaded}
use Rattle.wrong_programs.proofs.Faults.{equal}
use Rattle.wrong_programs.proofs.RulingOut.{accepts_some}

words_512 : (x : ValueCall) → length x.value.dictionary.words ≡ 512
unfolding value_fits kinds.array
words_512 x = equal (length x.value.dictionary.words) 512 (λ e. simp (e, and-false) at x.in_range)

-- The loader cannot return the dictionary value of the call.
abbrev bad_value : ValueCall → Type 0
bad_value x = Loadable x.value.dictionary → ⊥

-- What the check accepts has a dictionary value that the loader can return.
tested : (x : ValueCall) → (check_loaded x).refusal ≡ 0 → Loadable x.value.dictionary
unfolding check_loaded
tested x e =
    let d = x.value.dictionary in
    (valid_exactly d (words_512 x)).0 ((loaded_accepts_exactly x.value.message d).0 e).1

-- The check accepts the call wherever a field is returned.
checked : (k : ℕ) (x : ValueCall) → (field_loaded k x).refusal ≡ 0 → (check_loaded x).refusal ≡ 0
unfolding check_loaded field_loaded
checked k x e = go (eqb (calls.check_loaded x.value.dictionary x.value.message).refusal 0) refl
  where
    go : (t : Bool) → eqb (calls.check_loaded x.value.dictionary x.value.message).refusal 0 ≡ t
        → (calls.check_loaded x.value.dictionary x.value.message).refusal ≡ 0
    go true f = eqb-true (calls.check_loaded x.value.dictionary x.value.message).refusal 0 f
    go false f =
        let n = eqb-false (calls.check_loaded x.value.dictionary x.value.message).refusal 0 f in
        sym (ap (λ (r : FieldAnswer). r.refusal) (loaded_refused_as_checked x.value.message x.value.dictionary k n)) ∙ e

pub check_accepts_bad_value : RuledOut (AcceptsSome (λ (r : Checked). r.refusal) bad_value) check_loaded
check_accepts_bad_value = accepts_some (λ (r : Checked). r.refusal) bad_value (λ x w e. w (tested x e))

pub field_accepts_bad_value : (k : ℕ) → RuledOut (AcceptsSome (λ (r : FieldAnswer). r.refusal) bad_value) (field_loaded k)
field_accepts_bad_value k = accepts_some (λ (r : FieldAnswer). r.refusal) bad_value (λ x w e. w (tested x (checked k x e)))
