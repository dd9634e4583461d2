-- The answer for k is the k-th field of the message's division, and the places that it gives are where the field's name and data stand.
use Prim.Native.Nat.{ℕ, ◌+◌, ◌≤◌, ◌<◌}
use native.Mathlib.Omega.{arith}
use mathlib.Core.Path.{◌≡◌, refl, sym, ap, ◌∙◌, subst}
use mathlib.Core.Bool.{Bool, true, false}
use mathlib.Core.List.{List, [], ◌∷◌, ◌++◌, append_assoc}
use lib.ListN.{length, get_or, get_elem?, length-append}
use borrow.Author.Tests.{ne_eqb}
use Rattle.tib_field.specs.Refused.{refused_field}
use Rattle.tib_field.specs.Fields.{Each, joined, placed}
use Rattle.tib_field.specs.Kth.{field_or_absent, field_of}
use Rattle.tib_field.proofs.Fields.{each_one, joined_around, Picked, picked, none_remaining}
use Rattle.tib_field.proofs.Standing.{name_stands, data_stands}
use Rattle.tib_msg_field.specs.Layout.{kind, hinted, Hint, none, array, partial, value, Parts, octets, Allowed, magic, Whole}
use Rattle.tib_msg_field.proofs.Steps.{flat}
use Rattle.tib_msg_field.proofs.Accepted.{accepted_exactly}
use Rattle.tib_msg.specs.CheckAndField.{hint_value, shown, places, field}
use Rattle.tib_msg.proofs.Shows.{value_none, value_array, value_partial}
use Rattle.tib_msg.specs.KthTold.{HintTold, absent, element, offset, amount, KthTold}

-- The hint that the layout allows is told by its octets.
hint_told : (k size : ℕ) (t : Bool) (hint : List ℕ) → Hint k size t hint → HintTold k hint t (get_or hint 0 0) (hint_value k hint)
unfolding hint_value
hint_told k size t hint (none a b) = subst (HintTold k [] false 0) (value_none k [] (omega arith)) absent
hint_told k size t hint (array e n h p q w d) = subst (HintTold k (e ∷ n ∷ []) true e) (value_array k (e ∷ n ∷ []) h) (element e n h)
hint_told k size t hint (partial n h) =
    subst (HintTold k (6 ∷ n ∷ []) true 6) (value_partial k (6 ∷ n ∷ []) (omega arith) h) (offset n h)
hint_told k size t hint (value e s a b p q w) = rw (ne_eqb k 8 a, ne_eqb k 9 b) (amount e s a b)

module _ (s : List ℕ) (fs : List Parts) (w : Whole s fs) where
  told : (k : ℕ) → Picked octets fs k 9 → KthTold s fs k (field_or_absent refused_field shown (get_elem? (placed octets 9 fs) k))
  unfolding shown field_or_absent
  told k p =
      let f = p.kth.field in
      let front = magic ++ (w.size ++ joined octets p.kth.before) in
      let back = joined octets p.kth.after in
      let j : joined octets fs ≡ joined octets p.kth.before ++ (octets f ++ back) = ap (joined octets) p.kth.divides ∙ joined_around octets p.kth.before f p.kth.after in
      let d : s ≡ front ++ (octets f ++ back)
      = w.divides ∙ ap (λ (r : List ℕ). magic ++ (w.size ++ r)) j ∙ sym (simp append_assoc) in
      let u = d ∙ ap (λ (r : List ℕ). front ++ r) (flat f back) in
      let l = length-append w.size (joined octets p.kth.before) in
      let m = w.width in
      let at = 9 + length (joined octets p.kth.before) in
      let n : length front ≡ at = omega arith in
      let a = each_one Allowed p.kth.before f p.kth.after (subst (Each Allowed) p.kth.divides w.allowed) in
      let q : KthTold s fs k (shown at f)
      = record {
        kth = p.kth;
        accepted = refl;
        nowhere = refl;
        name = name_stands s front f.name f.octet f.size f.contents (f.hint ++ back) at u n;
        typed = refl;
        contents = data_stands s front f.name f.octet f.size f.contents (f.hint ++ back) at u n;
        hint = hint_told (kind f.octet) (length f.contents) (hinted f.octet) f.hint a.hint;
        real = refl;
        named_at = refl;
        data_at = omega arith;
      } in
      subst (KthTold s fs k) (sym (ap (field_or_absent refused_field shown) p.same)) q

  -- The answer for k is the k-th field of the division, or 18 at 0 where the division has no more than k fields.
  pub field_is_kth : (k : ℕ) → (k < length fs → KthTold s fs k (field s k)) × (length fs ≤ k → field s k ≡ refused_field 18 0)
  unfolding field field_of field_or_absent places
  field_is_kth k =
      let e = (accepted_exactly s fs).1 w in
      (λ h. rw e (told k (picked octets fs k 9 h)), λ h. rw (e, none_remaining octets fs k 9 h))
