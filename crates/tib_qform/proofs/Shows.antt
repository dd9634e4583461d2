-- The answer for the k-th field, by the place and the fid that were found, or the refusal.
use Prim.Native.Nat.{ℕ, ◌≤◌}
use native.Mathlib.Omega.{arith}
use mathlib.Core.Path.{◌≡◌, refl, sym, ap, ◌∙◌}
use mathlib.Core.List.{List}
use mathlib.Core.Option as maybe
use lib.ListN.{length, get_elem?}
use Rattle.std.specs.Prelude.{Result, ok_or}
use Rattle.reading.specs.Reading.{Reading, accepted, refused}
use Rattle.reading.specs.declared.Fault.{Fault}
use Rattle.reading.specs.declared.Refusal.TheVariants.{Absent}
use Rattle.reading.specs.internal.Verdicts.{IsAccepted}
use Rattle.tib_field.specs.Kth.{field_or_absent, field_of}
use Rattle.tib_field.specs.internal.KthOf.{kth_of}
use Rattle.tib_field.proofs.Kths.{kth_stands}
use Rattle.tib_dictionary.specs.Entry.{find, entry_with}
use Rattle.tib_dictionary.specs.declared.Entry.{Entry}
use Rattle.tib_qform_field.specs.Layout.{Parts, octets, fid_of, Allowed}
use Rattle.tib_qform_field.specs.Reading.{reading}
use Rattle.tib_qform.specs.declared.Found.{Found}
use Rattle.tib_qform.specs.declared.types.FieldAnswer.{FieldAnswer}
use Rattle.tib_qform.specs.CheckAndField.{refused_field, shown_by, shown, places, field}
use Rattle.tib_qform.specs.internal.Found.{place_and_fid, found_of, in_reading, kth_by}
use Rattle.tib_qform.proofs.Kths.{wanted, going}

-- A field that was looked for, as the reading of it.
pub kth_found : (w : maybe.Option (ℕ × Parts)) (q : Result Found Fault) → q ≡ ok_or (found_of w) (record { refusal = Absent; place = 0 })
    → in_reading q ≡ field_or_absent refused (λ at f. accepted (place_and_fid at f)) w
unfolding field_or_absent
kth_found maybe.none q e = ap in_reading e
kth_found (maybe.some f) q e = ap in_reading e

module _ (es : List Entry) where
  answer : Reading Found → FieldAnswer
  answer (accepted f) = shown_by f.place f.fid (entry_with es f.fid)
  answer (refused reason place) = refused_field reason place

  found_answer : (w : maybe.Option (ℕ × Parts))
      → field_or_absent refused_field (shown es) w ≡ answer (field_or_absent refused (λ at f. accepted (place_and_fid at f)) w)
  unfolding answer field_or_absent shown
  found_answer maybe.none = refl
  found_answer (maybe.some f) = refl

  kth_answer : (k : ℕ) (r : Reading (List Parts)) → field_of refused_field (shown es) places k r ≡ answer (kth_by k r)
  unfolding answer field_of
  kth_answer k (accepted fs) = found_answer (get_elem? (places fs) k)
  kth_answer k (refused reason place) = refl

  module _ (s : List ℕ) (k : ℕ) where
    -- The refusal is the answer,
    pub refused_shown : (reason place : ℕ) → refused reason place ≡ kth_by k (reading es s) → refused_field reason place ≡ field es s k
    unfolding answer field
    refused_shown reason place e = sym (kth_answer k (reading es s) ∙ ap answer (sym e))

    module _ (f : Found) (is : accepted f ≡ kth_by k (reading es s)) where
      -- or the field with the entry of its fid.
      pub found_shown : (e : Entry) → e ≡ entry_with es f.fid → shown_by f.place f.fid e ≡ field es s k
      unfolding answer field
      found_shown e g = ap (shown_by f.place f.fid) g ∙ sym (kth_answer k (reading es s) ∙ ap answer (sym is))

      -- A field that was found lies within the message, and the entries have its fid.
      pub record Stands : Type 0 where
        pub inside : f.place ≤ length s
        pub entry : Entry
        pub known : find es f.fid ≡ maybe.some entry

      pub stands : Stands
      unfolding IsAccepted field_of field_or_absent kth_of
      stands = go (reading es s) refl (sym is)
        where
          one : (fs : List Parts) → reading es s ≡ accepted fs → (w : maybe.Option (ℕ × Parts)) → wanted es s k ≡ w
              → field_or_absent refused (λ at f. accepted (place_and_fid at f)) w ≡ accepted f → Stands
          one fs e maybe.none g h = let z : ◌≡◌ {A = ℕ} 0 1 = cc in absurd (omega arith)
          one fs e (maybe.some x) g h =
              let b : place_and_fid x.0 x.1 ≡ f = cc in
              let a : x.0 ≡ f.place = ap (λ (y : Found). y.place) b in
              let c : fid_of x.1 ≡ f.fid = ap (λ (y : Found). y.fid) b in
              let t = kth_stands octets (Allowed es) s (wanted es s k) 8 k (going es s k (fs, e)) x.0 x.1 g in
              let l = t.inside in
              record { inside = omega arith; entry = t.good.entry; known = ap (find es) (sym c) ∙ t.good.known }

          go : (r : Reading (List Parts)) → reading es s ≡ r → kth_by k r ≡ accepted f → Stands
          go (accepted fs) e g = one fs e (get_elem? (places fs) k) (rw e) g
          go (refused reason p) e g = let z : ◌≡◌ {A = ℕ} 0 1 = cc in absurd (omega arith)
