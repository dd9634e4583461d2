-- The answer for k is the k-th field of the message's division, and the place that it gives is where the field's data stand.
use Prim.Native.Nat.{ℕ, ◌+◌}
use native.Mathlib.Omega.{arith}
use mathlib.Core.Path.{◌≡◌, refl, sym, ap, ◌∙◌, subst}
use mathlib.Core.Bool.{true}
use mathlib.Core.List.{List, [], ◌∷◌, ◌++◌, append_assoc}
use lib.ListN.{length, get_elem?, length-append}
use Rattle.octets.specs.Number.{Octets}
use Rattle.tib_field.specs.Fields.{Each, joined, placed}
use Rattle.tib_field.specs.Stands.{Stands}
use Rattle.tib_field.specs.Kth.{field_or_absent, field_of}
use Rattle.tib_field.proofs.Fields.{each_one, joined_around, Picked, picked, none_remaining}
use Rattle.tib_field.proofs.Standing.{stands_after}
use Rattle.tib_dictionary.specs.Entry.{or_zeros, entry_with, entries}
use Rattle.tib_dictionary.specs.Load.{loading}
use Rattle.tib_dictionary.specs.Records.{IsDictionary}
use Rattle.tib_dictionary.specs.Valid.{valid}
use Rattle.tib_dictionary.specs.declared.Entry.{Entry}
use Rattle.tib_dictionary.specs.declared.Dictionary.{Dictionary}
use Rattle.tib_dictionary.proofs.Records.{load_exactly}
use Rattle.tib_qform_field.specs.Layout.{Parts, octets, fid_of, Allowed, magic, Whole}
use Rattle.tib_qform_field.proofs.Accepted.{accepted_exactly}
use Rattle.tib_qform.specs.CheckAndField.{refused_field, shown_by, shown, places, field, entries_of, field_octets, field_loaded}
use Rattle.tib_qform.specs.KthTold.{KthTold, IsKth}
use Rattle.tib_qform.proofs.Calls.{good, valid_entries}

module _ (es : List Entry) (s : List ℕ) (fs : List Parts) (w : Whole es s fs) where
  told : (k : ℕ) → Picked octets fs k 8 → KthTold es s fs k (field_or_absent refused_field (shown es) (get_elem? (placed octets 8 fs) k))
  unfolding shown shown_by field_or_absent entry_with or_zeros octets
  told k p =
      let f = p.kth.field in
      let front = magic ++ (w.size ++ joined octets p.kth.before) in
      let back = joined octets p.kth.after in
      let lead = f.high ∷ f.low ∷ [] in
      let j : joined octets fs ≡ joined octets p.kth.before ++ (octets f ++ back) = ap (joined octets) p.kth.divides ∙ joined_around octets p.kth.before f p.kth.after in
      let d : s ≡ front ++ (octets f ++ back) = w.divides ∙ ap (λ (r : List ℕ). magic ++ (w.size ++ r)) j ∙ sym (simp append_assoc) in
      let u : s ≡ front ++ lead ++ (f.contents ++ (f.padding ++ back)) = d ∙ sym (simp append_assoc) in
      let l = length-append w.size (joined octets p.kth.before) in
      let m = w.width in
      let at = 8 + length (joined octets p.kth.before) in
      let n : length (front ++ lead) ≡ at + 2 = length-append front lead ∙ omega arith in
      let a = each_one (Allowed es) p.kth.before f p.kth.after (subst (Each (Allowed es)) p.kth.divides w.allowed) in
      let e : entry_with es (fid_of f) ≡ a.entry = ap or_zeros a.known in
      let q : KthTold es s fs k (shown_by at (fid_of f) a.entry)
      = record {
        kth = p.kth;
        accepted = refl;
        nowhere = refl;
        numbered = refl;
        entry = a.entry;
        known = a.known;
        typed = refl;
        sized = refl;
        contents = subst (Stands s f.contents (at + 2)) a.size (stands_after s (front ++ lead) f.contents (f.padding ++ back) (at + 2) u n);
        data_at = refl;
      } in
      subst (KthTold es s fs k) (sym (ap (field_or_absent refused_field (shown es)) p.same ∙ ap (shown_by at (fid_of f)) e)) q

  pub field_is_kth : (k : ℕ) → IsKth es s fs k (field es s k)
  unfolding field field_of field_or_absent places
  field_is_kth k =
      let e = (accepted_exactly es s fs).1 w in
      (λ h. rw e (told k (picked octets fs k 8 h)), λ h. rw (e, none_remaining octets fs k 8 h))

  -- Under the octets of a dictionary with these entries.
  pub octets_kth : (dictionary : List ℕ) → Octets dictionary → IsDictionary dictionary es → (k : ℕ) → IsKth es s fs k (field_octets dictionary s k)
  unfolding field_octets
  octets_kth dictionary o d k =
      rw (good refused_field (λ es. field es s k) s (loading dictionary) w.within_limit es ((load_exactly dictionary o es).1 d)) (field_is_kth k)

-- Under a dictionary value that the loader can return.
pub loaded_kth : (d : Dictionary) → valid d ≡ true → (s : List ℕ) (fs : List Parts) → Whole (entries d) s fs → (k : ℕ)
    → IsKth (entries d) s fs k (field_loaded d s k)
unfolding field_loaded
loaded_kth d e s fs w k = rw (good refused_field (λ es. field es s k) s (entries_of d) w.within_limit (entries d) (valid_entries d e)) (field_is_kth (entries d) s fs w k)
