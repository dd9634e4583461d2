-- Choosing from a list, and from what a function makes of its elements.
use Prim.Native.Nat.{ℕ, zero, suc, ◌≤◌, ◌<◌}
use native.Mathlib.Omega.{arith}
use mathlib.Core.Path.{◌≡◌, refl, ap}
use mathlib.Core.Bool.{Bool, true, false, cond}
use mathlib.Core.List.{List, [], ◌∷◌, map}
use lib.ListN.{get_elem?}
use mathlib.Core.Option
use mathlib.Core.Option.{Option, none, some}
use lib.Dec.{eqb}
use borrow.Author.Tests.{eqb-true, ne_eqb}
use Rattle.message.specs.Items.{Item, item_tag, with_tag}
use Rattle.message_calls.specs.Lookup.{last_or, chosen}
use Rattle.message_calls.specs.declared.outermost.Occurrence.{Occurrence}
use Rattle.message_calls.specs.declared.outermost.Occurrence.TheVariants.{Nth, Last}

module _ {A B : Type 0} (f : A → B) where
  get_elem_map : (k : ℕ) (l : List A) → get_elem? (map f l) k ≡ Option.map f (get_elem? l k)
  get_elem_map k [] = refl
  get_elem_map zero (x ∷ l) = refl
  get_elem_map (suc k) (x ∷ l) = get_elem_map k l

  last_map : (o : Option A) (l : List A) → last_or (Option.map f o) (map f l) ≡ Option.map f (last_or o l)
  unfolding last_or
  last_map o [] = refl
  last_map o (x ∷ l) = last_map (some x) l

  pub chosen_map : (w : Occurrence) (l : List A) → chosen w (map f l) ≡ Option.map f (chosen w l)
  unfolding chosen
  chosen_map (Nth k) l = get_elem_map k l
  chosen_map Last l = last_map none l

  -- A function that keeps what an element stands for keeps its tag.
  pub with_tag_map : (item : B → Item) (t : ℕ) (l : List A) → with_tag item t (map f l) ≡ map f (with_tag (λ (x : A). item (f x)) t l)
  unfolding with_tag
  with_tag_map item t [] = refl
  with_tag_map item t (x ∷ l) = go (with_tag_map item t l) (eqb (item_tag (item (f x))) t)
    where
      go : with_tag item t (map f l) ≡ map f (with_tag (λ (x : A). item (f x)) t l) → (b : Bool)
          → cond b (f x ∷ with_tag item t (map f l)) (with_tag item t (map f l))
          ≡ map f (cond b (x ∷ with_tag (λ (x : A). item (f x)) t l) (with_tag (λ (x : A). item (f x)) t l))
      go e true = ap (λ (r : List B). f x ∷ r) e
      go e false = e

  pub map_with_tag : (item : A → Item) (t : ℕ) (x : A) (l : List A)
      → map f (with_tag item t (x ∷ l)) ≡ cond (eqb (item_tag (item x)) t) (f x ∷ map f (with_tag item t l)) (map f (with_tag item t l))
  unfolding with_tag
  map_with_tag item t x l = go (eqb (item_tag (item x)) t)
    where
      go : (b : Bool) → map f (cond b (x ∷ with_tag item t l) (with_tag item t l))
          ≡ cond b (f x ∷ map f (with_tag item t l)) (map f (with_tag item t l))
      go true = refl
      go false = refl

module _ {A : Type 0} (P : A → Type 0) where
  -- Something holds of each element.
  unfoldable pub Each : List A → Type 0
  Each [] = Unit {0}
  Each (x ∷ l) = P x × Each l

  -- It holds of what was chosen, if anything was.
  unfoldable pub Of : Option A → Type 0
  Of none = Unit {0}
  Of (some x) = P x

  get_elem_each : (k : ℕ) (l : List A) → Each l → Of (get_elem? l k)
  unfolding Each Of
  get_elem_each k [] h = tt
  get_elem_each zero (x ∷ l) h = h.0
  get_elem_each (suc k) (x ∷ l) h = get_elem_each k l h.1

  last_each : (o : Option A) (l : List A) → Of o → Each l → Of (last_or o l)
  unfolding Each Of last_or
  last_each o [] p h = p
  last_each o (x ∷ l) p h = last_each (some x) l h.0 h.1

  pub chosen_each : (w : Occurrence) (l : List A) → Each l → Of (chosen w l)
  unfolding chosen Of
  chosen_each (Nth k) l h = get_elem_each k l h
  chosen_each Last l h = last_each none l tt h

-- The elements with a tag have that tag, and what each element has.
pub with_tag_each : {A : Type 0} (P : A → Type 0) (item : A → Item) (t : ℕ) (l : List A) → Each P l
    → Each (λ (x : A). P x × (item_tag (item x) ≡ t)) (with_tag item t l)
unfolding Each with_tag
with_tag_each P item t [] h = tt
with_tag_each {A} P item t (x ∷ l) h = go (with_tag_each P item t l h.1) (eqb (item_tag (item x)) t) refl
  where
    go : Each (λ (x : A). P x × (item_tag (item x) ≡ t)) (with_tag item t l) → (b : Bool) → eqb (item_tag (item x)) t ≡ b
        → Each (λ (x : A). P x × (item_tag (item x) ≡ t)) (cond b (x ∷ with_tag item t l) (with_tag item t l))
    go k true e = ((h.0, eqb-true (item_tag (item x)) t e), k)
    go k false e = k

-- Where every tag is below a bound, none is found from the bound on.
pub with_tag_none : {A : Type 0} (item : A → Item) (bound t : ℕ) (l : List A) → bound ≤ t → Each (λ (x : A). item_tag (item x) < bound) l
    → with_tag item t l ≡ []
unfolding Each with_tag
with_tag_none item bound t [] b h = refl
with_tag_none item bound t (x ∷ l) b h =
    let k = h.0 in
    rw (ne_eqb (item_tag (item x)) t (λ e. omega arith)) (with_tag_none item bound t l b h.1)

pub chosen_none : {A : Type 0} (w : Occurrence) → chosen {A = A} w [] ≡ none
unfolding chosen last_or
chosen_none (Nth k) = refl
chosen_none Last = refl
