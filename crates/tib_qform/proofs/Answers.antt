-- The check of a message under the octets of a dictionary gives just the answer that holds of them.
use Prim.Native.Nat.{ℕ, ◌≤◌}
use mathlib.Core.Path.{◌≡◌, refl, sym, ap, ◌∙◌, subst}
use mathlib.Core.List.{List}
use mathlib.Core.Logic.{◌↔◌}
use lib.ListN.{length}
use Rattle.octets.specs.Number.{Octets}
use Rattle.reading.specs.Reading.{Reading, accepted, refused, message_limit}
use Rattle.reading.specs.Checks.{refusal, counts}
use Rattle.reading.specs.declared.Checked.{Checked}
use Rattle.tib_field.specs.Steps.{flat_depth}
use Rattle.tib_dictionary.specs.Load.{loading}
use Rattle.tib_dictionary.specs.Records.{IsDictionary}
use Rattle.tib_dictionary.specs.declared.Entry.{Entry}
use Rattle.tib_dictionary.proofs.Records as dictionaries
use Rattle.tib_dictionary.proofs.Records.{load_exactly, refused_always_2}
use Rattle.tib_qform_field.specs.Layout.{Parts}
use Rattle.tib_qform_field.specs.Reading.{reading}
use Rattle.tib_qform_field.proofs.Accepted.{accepted_exactly}
use Rattle.tib_qform_field.proofs.FirstFault.{refused_exactly}
use Rattle.tib_qform.specs.CheckAndField.{check, check_octets}
use Rattle.tib_qform.specs.Answers.{Answered, too_long, badDictionary, badMessage, whole}
use Rattle.tib_qform.proofs.Calls.{cases}
use Rattle.tib_qform.proofs.Checks.{octets_counted}
use Rattle.tib_qform.proofs.Faults as faults
use Rattle.tib_qform.proofs.Faults.{dictionary_refused, fault_checked}

module _ (dictionary : List ℕ) (o : Octets dictionary) (s : List ℕ) where
  under : length s ≤ message_limit → (es : List Entry) → IsDictionary dictionary es → (r : Reading (List Parts)) → reading es s ≡ r
      → Answered dictionary s (counts length flat_depth r)
  unfolding counts flat_depth
  under h es d (accepted fs) e = whole es d fs ((accepted_exactly es s fs).0 e)
  under h es d (refused k p) e = badMessage h es d k p ((refused_exactly es s k p).0 e)

  faulty : length s ≤ message_limit → (k p : ℕ) → loading dictionary ≡ refused k p → Answered dictionary s (refusal k p)
  faulty h k p e =
      let two = refused_always_2 dictionary o k p e in
      subst (λ (n : ℕ). Answered dictionary s (refusal n p)) (sym two)
      (badDictionary h p ((dictionaries.refused_exactly dictionary o p).0 (e ∙ ap (λ (n : ℕ). refused n p) two)))

  answered : Answered dictionary s (check_octets dictionary s)
  unfolding check_octets check
  answered =
      cases refusal (λ es. check es s) s (loading dictionary) (Answered dictionary s) too_long faulty
      (λ h es e. under h es ((load_exactly dictionary o es).0 e) (reading es s) refl)

  given : (r : Checked) → Answered dictionary s r → check_octets dictionary s ≡ r
  given r (too_long h) = faults.too_long_lem s h dictionary
  given r (badDictionary h p f) = dictionary_refused s h dictionary o p f
  given r (badMessage h es d k p f) = fault_checked s dictionary o es d k p f
  given r (whole es d fs w) = octets_counted s dictionary o es fs d w

  -- An answer is given exactly if it holds of the dictionary and the message.
  pub check-answered : (r : Checked) → (check_octets dictionary s ≡ r) ↔ Answered dictionary s r
  check-answered r = (λ e. subst (Answered dictionary s) e answered, given r)
