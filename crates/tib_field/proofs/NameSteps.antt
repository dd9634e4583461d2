-- What a step finds at the front of octets by the name there, over what a format makes of it.
use Prim.Native.Nat.{ℕ, suc, ◌+◌, ◌-◌}
use native.Mathlib.Omega.{arith}
use mathlib.Core.Path.{◌≡◌, refl, sym, ap, ◌∙◌}
use mathlib.Core.List.{List, [], ◌∷◌, ◌++◌}
use lib.ListN.{length, take, drop}
use lib.Seq.{drop_at}
use Rattle.tib_field.specs.Name.{Name, name_step, after_name, NameStep, End, Fault, Sized}
use Rattle.tib_field.proofs.Names.{name_step_end, name_step_found, name_step_of_name}
use Rattle.octets.proofs.Slices.{tail_part}

module _ {A : Type 0} (done : A) (fault : ℕ → A) (after : ℕ → List ℕ → A) where
  abbrev pub next : List ℕ → A
  next s = after_name done fault after s (name_step s)

  pub next_of_end : (s : List ℕ) → name_step s ≡ End → done ≡ next s
  unfolding after_name
  next_of_end s e = rw e

  pub next_of_fault : (s : List ℕ) (k : ℕ) → name_step s ≡ Fault k → fault k ≡ next s
  unfolding after_name
  next_of_fault s k e = rw e

  pub next_of_sized : (s : List ℕ) (n : ℕ) → name_step s ≡ Sized n → after n (take (length s - (1 + n)) (drop (1 + n) s)) ≡ next s
  unfolding after_name
  next_of_sized s n e = rw (e, tail_part s (1 + n))

  -- After a name stands what `after` finds there.
  pub next_of_name : (name rest : List ℕ) → Name name → next (length name ∷ (name ++ rest)) ≡ after (length name) rest
  unfolding after_name
  next_of_name name rest good =
      let n = length name in
      let k : 1 + n ≡ suc n = omega arith in
      rw (name_step_of_name name rest good, k, drop_at name rest n refl)

  -- What is neither the end nor a fault was found after a name.
  pub record AfterName (s : List ℕ) (q : A) : Type 0 where
    pub name : List ℕ
    pub rest : List ℕ
    pub divides : s ≡ length name ∷ (name ++ rest)
    pub good : Name name
    pub same : after (length name) rest ≡ q

  pub name_found : (s : List ℕ) (q : A) → (done ≡ q → ⊥) → ((k : ℕ) → fault k ≡ q → ⊥) → next s ≡ q → AfterName s q
  unfolding after_name
  name_found s q a b e = go (name_step s) refl e
    where
      go : (f : NameStep) → name_step s ≡ f → after_name done fault after s f ≡ q → AfterName s q
      go End f g = absurd (a g)
      go (Fault k) f g = absurd (b k g)
      go (Sized n) f g =
          let r = name_step_found s n f in
          let k : 1 + n ≡ suc n = omega arith in
          let d : drop (1 + n) s ≡ r.rest = rw k (ap (drop (suc n)) r.divides) ∙ drop_at r.name r.rest n r.sized in
          let h : after n r.rest ≡ q = rw d at g in
          record {
            name = r.name;
            rest = r.rest;
            divides = r.divides ∙ ap (λ (x : ℕ). x ∷ (r.name ++ r.rest)) (sym r.sized);
            good = r.good;
            same = rw r.sized h;
          }

  -- A step finds the end only where no octet remains.
  pub next_done : (s : List ℕ) → ((k : ℕ) → fault k ≡ done → ⊥) → ((n : ℕ) (r : List ℕ) → after n r ≡ done → ⊥) → next s ≡ done → s ≡ []
  unfolding after_name
  next_done s a b e = go (name_step s) refl e
    where
      go : (f : NameStep) → name_step s ≡ f → after_name done fault after s f ≡ done → s ≡ []
      go End f g = name_step_end s f
      go (Fault k) f g = absurd (a k g)
      go (Sized n) f g = absurd (b n (drop (1 + n) s) g)
