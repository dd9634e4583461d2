-- What a step refuses by the name at the front of octets is wrong, and the other way round, over what a format makes of the octets after it.
use Prim.Native.Nat.{ℕ, suc, ◌+◌}
use native.Mathlib.Omega.{arith}
use mathlib.Core.Path.{◌≡◌, refl, ◌∙◌, subst}
use mathlib.Core.Bool.{Bool, true, false, cond}
use mathlib.Core.List.{List, [], ◌∷◌, ◌++◌}
use lib.ListN.{length, take, drop, length-append, take-append-drop}
use lib.Seq.{take_at, length-take-le}
use lib.Dec.{ltb}
use borrow.Author.Tests.{ltb-true, ltb-false, lt-ltb, le-ltb}
use Rattle.tib_field.specs.Name as names
use Rattle.tib_field.specs.Name.{name_step, after_name, Fault, Sized}
use Rattle.tib_field.specs.WrongName.{WrongNamed, name_cut, name_bad, named}
use Rattle.tib_field.proofs.Names.{named_name, name_named}
use Rattle.tib_field.proofs.NameSteps.{next, next_of_name}

module _ {A : Type 0} (done : A) (fault : ℕ → A) (after : ℕ → List ℕ → A) (After : ℕ → List ℕ → Type 0) where
  -- Each fault that is found is wrong, where each that is found after a name is wrong there. No two faults are the same, and none is the end.
  pub name_told : ((k : ℕ) → done ≡ fault k → ⊥) → ((j k : ℕ) → fault j ≡ fault k → j ≡ k)
      → ((k n : ℕ) (s : List ℕ) → after n s ≡ fault k → After k s) → (k : ℕ) (s : List ℕ) → next done fault after s ≡ fault k → WrongNamed After k s
  unfolding name_step after_name
  name_told ended same later k [] e = absurd (ended k e)
  name_told ended same later k (n ∷ s) e = cut (ltb (length s) n) refl e
    where
      wrong : (j : ℕ) → fault j ≡ fault k → WrongNamed After j (n ∷ s) → WrongNamed After k (n ∷ s)
      wrong j f w = subst (λ (i : ℕ). WrongNamed After i (n ∷ s)) (same j k f) w

      name : length (take n s) ≡ n → (t : Bool) → names.named (take n s) ≡ t
          → after_name done fault after (n ∷ s) (cond t (Sized n) (Fault 15)) ≡ fault k → WrongNamed After k (n ∷ s)
      name l true e f =
          let i : 1 + n ≡ suc n = omega arith in
          let g : after n (drop n s) ≡ fault k = rw i at f in
          let w : WrongNamed After k (length (take n s) ∷ (take n s ++ drop n s)) =
          named k (take n s) (drop n s) (named_name (take n s) e) (later k n (drop n s) g) in
          rw (l, take-append-drop n s) at w
      name l false e f =
          let w : WrongNamed After 15 (length (take n s) ∷ (take n s ++ drop n s)) =
          name_bad (take n s) (drop n s) (λ x. let g = name_named (take n s) x in let z : ◌≡◌ {A = ℕ} 0 1 = cc in absurd (omega arith)) in
          wrong 15 f (rw (l, take-append-drop n s) at w)

      cut : (t : Bool) → ltb (length s) n ≡ t
          → after_name done fault after (n ∷ s) (cond t (Fault 3) (cond (names.named (take n s)) (Sized n) (Fault 15))) ≡ fault k
          → WrongNamed After k (n ∷ s)
      cut true e f = wrong 3 f (name_cut n s (ltb-true (length s) n e))
      cut false e f = name (length-take-le n s (ltb-false (length s) n e)) (names.named (take n s)) refl f

  -- What is wrong is refused, where what is wrong after a name is.
  pub name_wrong : ((k n : ℕ) (s : List ℕ) → After k s → after n s ≡ fault k) → (k : ℕ) (s : List ℕ) → WrongNamed After k s
      → next done fault after s ≡ fault k
  unfolding name_step after_name
  name_wrong later k s (name_cut n r h) = rw (lt-ltb (length r) n h)
  name_wrong later k s (name_bad name r h) =
      let l = length-append name r in
      rw (le-ltb (length (name ++ r)) (length name) (omega arith), take_at name r (length name) refl, bad (names.named name) refl)
    where
      bad : (t : Bool) → names.named name ≡ t → names.named name ≡ false
      bad true e = absurd (h (named_name name e))
      bad false e = e
  name_wrong later k s (named j name r good w) = next_of_name done fault after name r good ∙ later j (length name) r w

-- What holds of 3, 15 and each number of what is wrong after a name holds of each number of what is wrong.
pub of_named : (After : ℕ → List ℕ → Type 0) (P : ℕ → Type 0) → P 3 → P 15 → ((k : ℕ) (s : List ℕ) → After k s → P k) → (k : ℕ) (s : List ℕ)
    → WrongNamed After k s → P k
of_named After P three name later k s (name_cut n r h) = three
of_named After P three name later k s (name_bad n r h) = name
of_named After P three name later k s (named j n r good w) = later j r w
