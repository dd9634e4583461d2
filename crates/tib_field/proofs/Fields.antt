-- Laws of fields that stand one after the other.
use Prim.Native.Nat.{ℕ, zero, suc, ◌+◌, ◌-◌, ◌≤◌, ◌<◌}
use native.Mathlib.Omega.{arith}
use mathlib.Core.Path.{◌≡◌, refl, sym, ap, ◌∙◌}
use mathlib.Core.List.{List, [], ◌∷◌, ◌++◌, append_assoc}
use mathlib.Core.Option.{none, some}
use lib.ListN.{length, get_elem?, length-append}
use Rattle.tib_field.specs.Fields.{Each, joined, placed, KthField}

-- What holds of each field holds of one in the middle.
pub each_one : {A : Type 0} (P : A → Type 0) (fs : List A) (f : A) (gs : List A) → Each P (fs ++ (f ∷ gs)) → P f
unfolding Each
each_one P [] f gs a = a.0
each_one P (g ∷ fs) f gs a = each_one P fs f gs a.1

-- Octets that are fields, of each of which P holds.
pub record Row {A : Type 0} (octets : A → List ℕ) (P : A → Type 0) (s : List ℕ) (fs : List A) : Type 0 where
  pub divides : s ≡ joined octets fs
  pub each : Each P fs

module _ {A : Type 0} (octets : A → List ℕ) where
  pub joined_around : (fs : List A) (f : A) (gs : List A)
      → joined octets (fs ++ (f ∷ gs)) ≡ joined octets fs ++ (octets f ++ joined octets gs)
  unfolding joined
  joined_around [] f gs = refl
  joined_around (g ∷ fs) f gs =
      ap (λ (r : List ℕ). octets g ++ r) (joined_around fs f gs)
      ∙ sym (append_assoc (octets g) (joined octets fs) (octets f ++ joined octets gs))

  -- The field with k fields before it, and the place where it begins.
  pub record Picked (fs : List A) (k at : ℕ) : Type 0 where
    pub kth : KthField fs k
    pub same : get_elem? (placed octets at fs) k ≡ some (at + length (joined octets kth.before), kth.field)

  pub picked : (fs : List A) (k at : ℕ) → k < length fs → Picked fs k at
  unfolding joined placed
  picked [] k at h = absurd (omega arith)
  picked (f ∷ fs) zero at h =
      let e : at ≡ at + 0 = omega arith in
      record { kth = record { before = []; field = f; after = fs; divides = refl; counted = refl }; same = ap (λ (n : ℕ). some (n, f)) e }
  picked (f ∷ fs) (suc k) at h =
      let p = picked fs k (at + length (octets f)) (omega arith) in
      let l = length-append (octets f) (joined octets p.kth.before) in
      let e : at + length (octets f) + length (joined octets p.kth.before) ≡ at + length (octets f ++ joined octets p.kth.before) = omega arith in
      record {
        kth =
            record {
              before = f ∷ p.kth.before;
              field = p.kth.field;
              after = p.kth.after;
              divides = ap (λ (r : List A). f ∷ r) p.kth.divides;
              counted = ap suc p.kth.counted;
            };
        same = p.same ∙ ap (λ (n : ℕ). some (n, p.kth.field)) e;
      }

  pub none_remaining : (fs : List A) (k at : ℕ) → length fs ≤ k → get_elem? (placed octets at fs) k ≡ none
  unfolding placed
  none_remaining [] k at h = refl
  none_remaining (f ∷ fs) zero at h = absurd (omega arith)
  none_remaining (f ∷ fs) (suc k) at h = none_remaining fs k (at + length (octets f)) (omega arith)

  -- Past a field that is not looked for.
  pub kth_next : (remaining i : ℕ) (f : A) (gs : List A) → (remaining ≡ 0 → ⊥)
      → get_elem? (placed octets i (f ∷ gs)) remaining ≡ get_elem? (placed octets (i + length (octets f)) gs) (remaining - 1)
  unfolding placed
  kth_next zero i f gs h = absurd (h refl)
  kth_next (suc remaining) i f gs h = let k : suc remaining - 1 ≡ remaining = omega arith in rw k
