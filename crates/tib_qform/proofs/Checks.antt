-- What the checks answer: they accept exactly the whole messages under a good dictionary, and count the fields of their division.
use Prim.Native.Nat.{ℕ}
use native.Mathlib.Omega.{arith}
use mathlib.Core.Path.{◌≡◌, refl, sym, ap, ◌∙◌}
use mathlib.Core.Bool.{true}
use mathlib.Core.List.{List}
use mathlib.Core.Logic.{◌↔◌}
use lib.ListN.{length}
use Rattle.octets.specs.Number.{Octets}
use Rattle.reading.specs.Reading.{Reading, accepted, refused}
use Rattle.reading.specs.Checks.{refusal, counts}
use Rattle.reading.specs.declared.Checked.{Checked}
use Rattle.tib_field.specs.Steps.{flat_depth}
use Rattle.tib_field.proofs.ReadingLaws.{not_accepted, refused_as_checked as field-refused-as-checked, accepts_exactly}
use Rattle.tib_dictionary.specs.Entry.{entries}
use Rattle.tib_dictionary.specs.Load.{loading, dictionary_of}
use Rattle.tib_dictionary.specs.Records.{IsDictionary}
use Rattle.tib_dictionary.specs.Valid.{valid}
use Rattle.tib_dictionary.specs.declared.Entry.{Entry}
use Rattle.tib_dictionary.specs.declared.Dictionary.{Dictionary}
use Rattle.tib_dictionary.proofs.Records.{load_exactly, refused_always_2}
use Rattle.tib_qform_field.specs.Layout.{Parts, Whole}
use Rattle.tib_qform_field.specs.Reading.{reading}
use Rattle.tib_qform_field.proofs.Accepted.{accepted_exactly}
use Rattle.tib_qform_field.proofs.Refusals.{refusal_positive}
use Rattle.tib_qform.specs.declared.types.FieldAnswer.{FieldAnswer}
use Rattle.tib_qform.specs.CheckAndField.{check, refused_field, shown, places, field, under_dictionary, entries_of, check_octets, check_loaded, field_octets, field_loaded}
use Rattle.tib_qform.proofs.Calls.{good, cases, alike, valid_entries, entries_cases, loaded_alike}

module _ (s : List ℕ) where
  -- The counts of a whole message are its division's,
  pub counts_are_division : (es : List Entry) (fs : List Parts) → Whole es s fs → check es s ≡ record { refusal = 0; place = 0; fields = length fs; depth = 1 }
  unfolding check counts flat_depth
  counts_are_division es fs w = rw ((accepted_exactly es s fs).1 w)

  -- under the octets of a dictionary,
  pub octets_counted : (dictionary : List ℕ) → Octets dictionary → (es : List Entry) (fs : List Parts) → IsDictionary dictionary es → Whole es s fs
      → check_octets dictionary s ≡ record { refusal = 0; place = 0; fields = length fs; depth = 1 }
  unfolding check_octets
  octets_counted dictionary o es fs d w =
      good refusal (λ es. check es s) s (loading dictionary) w.within_limit es ((load_exactly dictionary o es).1 d) ∙ counts_are_division es fs w

  -- and under a dictionary value that the loader can return.
  pub loaded_counted : (d : Dictionary) (fs : List Parts) → valid d ≡ true → Whole (entries d) s fs → check_loaded d s ≡ record { refusal = 0; place = 0; fields = length fs; depth = 1 }
  unfolding check_loaded
  loaded_counted d fs e w = good refusal (λ es. check es s) s (entries_of d) w.within_limit (entries d) (valid_entries d e) ∙ counts_are_division (entries d) fs w

  under_accepts : (es : List Entry) → ((check es s).refusal ≡ 0) ↔ ((fs : List Parts) × Whole es s fs)
  unfolding check
  under_accepts es = accepts_exactly length flat_depth (Whole es s) (reading es s) (accepted_exactly es s) (refusal_positive es s)

  -- 0 is answered exactly for a whole message under a dictionary.
  pub check_accepts_exactly : (dictionary : List ℕ) → Octets dictionary
      → ((check_octets dictionary s).refusal ≡ 0) ↔ ((es : List Entry) × (fs : List Parts) × IsDictionary dictionary es × Whole es s fs)
  unfolding check_octets refusal
  check_accepts_exactly dictionary o = (
    cases refusal (λ es. check es s) s (loading dictionary)
        (λ (r : Checked). r.refusal ≡ 0 → (es : List Entry) × (fs : List Parts) × IsDictionary dictionary es × Whole es s fs)
        (λ h z. absurd (omega arith))
        (λ h k p e z. let two = refused_always_2 dictionary o k p e in absurd (omega arith))
        (λ h es e z. let w = (under_accepts es).0 z in (es, w.0, (load_exactly dictionary o es).0 e, w.1)),
    λ w. ap (λ (r : Checked). r.refusal) (octets_counted dictionary o w.0 w.1 w.2 w.3),
  )

  pub loaded_accepts_exactly : (d : Dictionary) → ((check_loaded d s).refusal ≡ 0) ↔ ((fs : List Parts) × (valid d ≡ true) × Whole (entries d) s fs)
  unfolding check_loaded refusal
  loaded_accepts_exactly d = (
    entries_cases d (λ (l : Reading (List Entry)). (under_dictionary refusal (λ es. check es s) l s).refusal ≡ 0 → (fs : List Parts) × (valid d ≡ true) × Whole (entries d) s fs)
        (λ e. cases refusal (λ es. check es s) s (refused 2 0) (λ (r : Checked). r.refusal ≡ 0 → (fs : List Parts) × (valid d ≡ true) × Whole (entries d) s fs)
        (λ h z. absurd (omega arith))
        (λ h k p q z. let two : k ≡ 2 = cc in absurd (omega arith))
        (λ h es q z. absurd (not_accepted 2 0 es q)))
        (λ e. cases refusal (λ es. check es s) s (accepted (entries d)) (λ (r : Checked). r.refusal ≡ 0 → (fs : List Parts) × (valid d ≡ true) × Whole (entries d) s fs)
        (λ h z. absurd (omega arith))
        (λ h k p q z. absurd (not_accepted k p (entries d) (sym q)))
        (λ h es q z.
        let same : es ≡ entries d = cc in
        let w = (under_accepts (entries d)).0 (ap (λ es. (check es s).refusal) (sym same) ∙ z) in
        (w.0, e, w.1))),
    λ w. ap (λ (r : Checked). r.refusal) (loaded_counted d w.0 w.1 w.2),
  )

  -- What the check refuses is refused with the same number and place, whichever field is asked for.
  abbrev Alike : Checked → FieldAnswer → Type 0
  Alike r f = (r.refusal ≡ 0 → ⊥) → f ≡ refused_field r.refusal r.place

  under_alike : (k : ℕ) (es : List Entry) → Alike (check es s) (field es s k)
  unfolding check field
  under_alike k es n = field-refused-as-checked length flat_depth refused_field (shown es) places k (reading es s) n

  refusal_alike : (n p : ℕ) → Alike (refusal n p) (refused_field n p)
  unfolding refusal
  refusal_alike n p h = refl

  pub refused_as_checked : (dictionary : List ℕ) (k : ℕ) → ((check_octets dictionary s).refusal ≡ 0 → ⊥)
      → field_octets dictionary s k ≡ refused_field (check_octets dictionary s).refusal (check_octets dictionary s).place
  unfolding check_octets field_octets
  refused_as_checked dictionary k =
      alike Alike refusal refused_field (λ es. check es s) (λ es. field es s k) refusal_alike (under_alike k) s (loading dictionary)

  pub loaded_refused_as_checked : (d : Dictionary) (k : ℕ) → ((check_loaded d s).refusal ≡ 0 → ⊥)
      → field_loaded d s k ≡ refused_field (check_loaded d s).refusal (check_loaded d s).place
  unfolding check_loaded field_loaded
  loaded_refused_as_checked d k =
      alike Alike refusal refused_field (λ es. check es s) (λ es. field es s k) refusal_alike (under_alike k) s (entries_of d)

  -- The calls with the dictionary value that octets load to answer as those with the octets.
  pub answers_as_octets : (dictionary : List ℕ) → Octets dictionary → (es : List Entry) → IsDictionary dictionary es
      → (check_loaded (dictionary_of es) s ≡ check_octets dictionary s) × ((k : ℕ) → field_loaded (dictionary_of es) s k ≡ field_octets dictionary s k)
  unfolding check_octets check_loaded field_octets field_loaded
  answers_as_octets dictionary o es d =
      let e = loaded_alike dictionary o es ((load_exactly dictionary o es).1 d) in (
        ap (λ l. under_dictionary refusal (λ es. check es s) l s) e,
        λ k. ap (λ l. under_dictionary refused_field (λ es. field es s k) l s) e,
      )
