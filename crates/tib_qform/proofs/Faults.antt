-- What the checks refuse: a message that is too long, then a faulty dictionary, then a message that is not whole, with its first fault.
use Prim.Native.Nat.{ℕ, ◌≤◌, ◌<◌}
use mathlib.Core.Path.{◌≡◌, sym, ap, ◌∙◌}
use mathlib.Core.Bool.{true, false}
use mathlib.Core.List.{List}
use lib.ListN.{length}
use Rattle.octets.specs.Number.{Octets}
use Rattle.reading.specs.Reading.{Reading, accepted, message_limit}
use Rattle.reading.specs.Checks.{refusal, counts}
use Rattle.reading.specs.declared.Checked.{Checked}
use Rattle.tib_field.specs.FirstFault.{too_long}
use Rattle.tib_field.proofs.ReadingLaws.{not_accepted}
use Rattle.tib_dictionary.specs.Entry.{entries}
use Rattle.tib_dictionary.specs.Load.{loading}
use Rattle.tib_dictionary.specs.Records.{IsDictionary, FaultyDictionary}
use Rattle.tib_dictionary.specs.Valid.{valid}
use Rattle.tib_dictionary.specs.declared.Entry.{Entry}
use Rattle.tib_dictionary.specs.declared.Dictionary.{Dictionary}
use Rattle.tib_dictionary.proofs.Records.{load_exactly, refused_exactly as dictionary-refused-exactly}
use Rattle.tib_qform_field.specs.FirstFault.{FirstFault}
use Rattle.tib_qform_field.proofs.FirstFault.{refused_exactly}
use Rattle.tib_qform.specs.CheckAndField.{check, under_dictionary, entries_of, check_octets, check_loaded}
use Rattle.tib_qform.proofs.Calls.{long, faulty, cases, valid_entries, invalid_entries}

module _ (s : List ℕ) where
  -- A message that is too long is refused whatever the dictionary holds.
  pub too_long_lem : message_limit < length s → (dictionary : List ℕ) → check_octets dictionary s ≡ refusal 1 0
  unfolding check_octets
  too_long_lem h dictionary = long refusal (λ es. check es s) s (loading dictionary) h

  pub too_long_loaded : message_limit < length s → (d : Dictionary) → check_loaded d s ≡ refusal 1 0
  unfolding check_loaded
  too_long_loaded h d = long refusal (λ es. check es s) s (entries_of d) h

  -- Any other is refused at the first faulty record of a dictionary,
  pub dictionary_refused : length s ≤ message_limit → (dictionary : List ℕ) → Octets dictionary → (p : ℕ) → FaultyDictionary dictionary p
      → check_octets dictionary s ≡ refusal 2 p
  unfolding check_octets
  dictionary_refused h dictionary o p f =
      faulty refusal (λ es. check es s) s (loading dictionary) h 2 p ((dictionary-refused-exactly dictionary o p).1 f)

  -- or under a dictionary value that the loader cannot return.
  pub invalid_refused : length s ≤ message_limit → (d : Dictionary) → valid d ≡ false → check_loaded d s ≡ refusal 2 0
  unfolding check_loaded
  invalid_refused h d e = faulty refusal (λ es. check es s) s (entries_of d) h 2 0 (invalid_entries d e)

  fault_under : (es : List Entry) (k p : ℕ) → FirstFault es s k p → check es s ≡ refusal k p
  unfolding check counts
  fault_under es k p f = rw ((refused_exactly es s k p).1 f)

  long_under : (es : List Entry) → message_limit < length s → check es s ≡ refusal 1 0
  long_under es h = fault_under es 1 0 (too_long h)

  -- Under the entries of a dictionary, a message is refused with its first fault.
  fault_loaded : (loaded : Reading (List Entry)) (es : List Entry) → loaded ≡ accepted es → (k p : ℕ) → FirstFault es s k p
      → under_dictionary refusal (λ es. check es s) loaded s ≡ refusal k p
  fault_loaded loaded es e k p f =
      cases refusal (λ es. check es s) s loaded (λ (r : Checked). r ≡ check es s)
      (λ h. sym (long_under es h))
      (λ h n q g. absurd (not_accepted n q es (sym g ∙ e)))
      (λ h gs g. let same : gs ≡ es = cc in ap (λ es. check es s) same)
      ∙ fault_under es k p f

  pub fault_checked : (dictionary : List ℕ) → Octets dictionary → (es : List Entry) → IsDictionary dictionary es → (k p : ℕ) → FirstFault es s k p
      → check_octets dictionary s ≡ refusal k p
  unfolding check_octets
  fault_checked dictionary o es d = fault_loaded (loading dictionary) es ((load_exactly dictionary o es).1 d)

  pub loaded_fault_checked : (d : Dictionary) → valid d ≡ true → (k p : ℕ) → FirstFault (entries d) s k p → check_loaded d s ≡ refusal k p
  unfolding check_loaded
  loaded_fault_checked d e = fault_loaded (entries_of d) (entries d) (valid_entries d e)
