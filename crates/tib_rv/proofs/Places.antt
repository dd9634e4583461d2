-- The answer for k is the k-th outermost field of the message's division, and the places that it gives are where the field's name and data
-- stand.
use Prim.Native.Nat.{ℕ, suc, ◌+◌, ◌≤◌, ◌<◌}
use native.Mathlib.Omega.{arith}
use mathlib.Core.Path.{◌≡◌, refl, sym, ap, ◌∙◌, subst}
use mathlib.Core.List.{List, ◌++◌, append_assoc}
use lib.ListN.{length, get_elem?, length-append}
use Rattle.tib_field.specs.Refused.{refused_field}
use Rattle.reading.specs.Reading.{message_limit}
use Rattle.tib_field.specs.Fields.{Each, joined as joinedParts, placed}
use Rattle.tib_field.specs.Kth.{field_or_absent, field_of}
use Rattle.tib_field.proofs.Fields.{each_one, joined_around, Picked, picked, none_remaining}
use Rattle.tib_field.proofs.Standing.{name_stands, data_stands}
use Rattle.tib_rv_field.specs.Layout.{Parts, octets, magic, Fields, end, leaf, nested, joined, message, depth, Header, Allowed, Whole}
use Rattle.tib_rv_field.proofs.Steps.{flat}
use Rattle.tib_rv_field.proofs.Accepted.{whole_accepted}
use Rattle.tib_rv.specs.CheckAndField.{outermost, shown, places, field}
use Rattle.tib_rv.proofs.Kths.{outermost_joined}
use Rattle.tib_rv.specs.KthTold.{KthTold}

-- The message that a field holds in one that is `deep` messages deep.
record Holder (f : Parts) (deep : ℕ) : Type 0 where
  size : List ℕ
  inside : Fields
  same : f.contents ≡ message size inside
  header : Header size inside
  allowed : Allowed inside
  deeper : suc (depth inside) ≤ deep

-- Each outermost field of type 1 holds a message.
all_hold : (fields : Fields) (deep : ℕ) → Allowed fields → depth fields ≤ deep
    → Each (λ (f : Parts). f.octet ≡ 1 → Holder f deep) (outermost fields)
unfolding outermost depth Allowed Each
all_hold end deep a h = tt
all_hold (leaf f rest) deep a h = (λ t. absurd (a.0.plain t), all_hold rest deep a.1 h)
all_hold (nested name size inside rest) deep a h = (
  λ t. record { size = size; inside = inside; same = refl; header = a.0.1; allowed = a.0.2; deeper = omega arith },
  all_hold rest deep a.1 (omega arith),
)

-- A message that a field of a message holds is whole.
inner_whole : (f : Parts) (h : Holder f 8) → length f.contents ≤ message_limit → Whole f.contents h.inside
inner_whole f h l =
    let d = h.deeper in
    record { size = h.size; divides = h.same; header = h.header; allowed = h.allowed; shallow = omega arith; within_limit = l }

module _ (s : List ℕ) (fields : Fields) (w : Whole s fields) where
  told : (k : ℕ) → Picked octets (outermost fields) k 8
      → KthTold s fields k (field_or_absent refused_field shown (get_elem? (placed octets 8 (outermost fields)) k))
  unfolding shown message field_or_absent
  told k p =
      let f = p.kth.field in
      let before = joinedParts octets p.kth.before in
      let back = joinedParts octets p.kth.after in
      let front = w.size ++ (magic ++ before) in
      let j : joined fields ≡ before ++ (octets f ++ back)
      = outermost_joined fields ∙ ap (joinedParts octets) p.kth.divides ∙ joined_around octets p.kth.before f p.kth.after in
      let d : s ≡ front ++ (octets f ++ back)
      = w.divides ∙ ap (λ (r : List ℕ). w.size ++ (magic ++ r)) j ∙ sym (simp append_assoc) in
      let u = d ∙ ap (λ (r : List ℕ). front ++ r) (flat f back) in
      let l = length-append w.size (magic ++ before) in
      let m = w.header.width in
      let at = 8 + length before in
      let n : length front ≡ at = omega arith in
      let c = data_stands s front f.name f.octet f.size f.contents back at u n in
      let b = c.inside in
      let v = w.within_limit in
      let h = each_one (λ (x : Parts). x.octet ≡ 1 → Holder x 8) p.kth.before f p.kth.after
      (subst (Each (λ (x : Parts). x.octet ≡ 1 → Holder x 8)) p.kth.divides (all_hold fields 8 w.allowed w.shallow)) in
      let q : KthTold s fields k (shown at f)
      = record {
        kth = p.kth;
        accepted = refl;
        nowhere = refl;
        name = name_stands s front f.name f.octet f.size f.contents back at u n;
        typed = refl;
        contents = c;
        message = λ t. ((h t).inside, inner_whole f (h t) (omega arith));
        no_hint = (refl, refl, refl);
        real = refl;
        named_at = refl;
        data_at = omega arith;
      } in
      subst (KthTold s fields k) (sym (ap (field_or_absent refused_field shown) p.same)) q

  -- The answer for k is the k-th outermost field of the division, or 18 at 0 where the division has no more than k outermost fields.
  pub field_is_kth : (k : ℕ) → (k < length (outermost fields) → KthTold s fields k (field s k))
      × (length (outermost fields) ≤ k → field s k ≡ refused_field 18 0)
  unfolding field field_of field_or_absent places
  field_is_kth k =
      let e = whole_accepted s fields w in
      (λ h. rw e (told k (picked octets (outermost fields) k 8 h)), λ h. rw (e, none_remaining octets (outermost fields) k 8 h))
