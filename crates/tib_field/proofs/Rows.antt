-- Items that stand one after the other: the fields of a message, or the records of a dictionary. A reader accepts exactly octets that are allowed
-- items, and refuses others at the first that is wrong. It need only be known what one step of the reader does.
use Prim.Native.Nat.{ℕ, zero, suc, ◌+◌, ◌≤◌, ◌<◌}
use native.Mathlib.Omega.{arith}
use mathlib.Core.Path.{◌≡◌, refl, sym, ap, ◌∙◌, subst}
use mathlib.Core.List.{List, [], ◌∷◌, ◌++◌, append_assoc, append-nil}
use mathlib.Core.Logic.{◌↔◌}
use lib.ListN.{length, length-append}
use Rattle.reading.specs.Reading.{Reading, accepted, refused, on_accepted}
use Rattle.tib_field.specs.Fields.{EachAfter, joined}

-- `Good before f`: the item f is allowed after those before it. `Wrong before k s`: what stands at the front of s is refused with k. `Fit` is what is
-- known of the octets. `from` reads the items from a place on, after those before; its second argument bounds the items that it looks at.
module _ {A : Type 0} (octets : A → List ℕ) (Good : List A → A → Type 0) (Wrong : List A → ℕ → List ℕ → Type 0) (Fit : List ℕ → Type 0)
    (from : List A → ℕ → ℕ → List ℕ → Reading (List A)) where
  -- What stands at the front of octets.
  pub data Front (before : List A) (s : List ℕ) : Type 0 where
    ended : s ≡ [] → Front before s
    item : (f : A) (rest : List ℕ) → Good before f → s ≡ octets f ++ rest → Front before s
    wrong : (k : ℕ) → Wrong before k s → Front before s

  -- What one step of the reader does.
  pub record Steps : Type 0 where
    pub sized : (f : A) → 1 ≤ length (octets f)
    pub rest_fits : (f : A) (rest : List ℕ) → Fit (octets f ++ rest) → Fit rest
    pub front : (before : List A) (s : List ℕ) → Fit s → Front before s
    pub at_end : (before : List A) (fuel at : ℕ) → from before (suc fuel) at [] ≡ accepted []
    pub over : (before : List A) (fuel at : ℕ) (f : A) (rest : List ℕ) → Good before f
        → from before (suc fuel) at (octets f ++ rest)
        ≡ on_accepted (λ (fs : List A). f ∷ fs) (from (before ++ (f ∷ [])) fuel (at + length (octets f)) rest)
    pub fault : (before : List A) (fuel at k : ℕ) (s : List ℕ) → Wrong before k s → from before (suc fuel) at s ≡ refused k at

  -- Octets that are allowed items.
  pub record RowAfter (before : List A) (s : List ℕ) (fs : List A) : Type 0 where
    pub divides : s ≡ joined octets fs
    pub each : EachAfter Good before fs

  -- Octets at a place that are allowed items, and then one that is wrong at p.
  pub record RowFault (before : List A) (at : ℕ) (s : List ℕ) (k p : ℕ) : Type 0 where
    pub fields : List A
    pub rest : List ℕ
    pub divides : s ≡ joined octets fields ++ rest
    pub each : EachAfter Good before fields
    pub wrong : Wrong (before ++ fields) k rest
    pub place : p ≡ at + length (joined octets fields)

  -- What a reading says of the octets.
  Told : List A → ℕ → List ℕ → Reading (List A) → Type 0
  Told before at s (accepted fs) = RowAfter before s fs
  Told before at s (refused k p) = RowFault before at s k p

  -- One item more before what is read.
  one_more : (before : List A) (at : ℕ) (f : A) (rest : List ℕ) → Good before f → (r : Reading (List A))
      → Told (before ++ (f ∷ [])) (at + length (octets f)) rest r → Told before at (octets f ++ rest) (on_accepted (λ (fs : List A). f ∷ fs) r)
  unfolding Told on_accepted joined EachAfter
  one_more before at f rest g (accepted fs) t = record { divides = ap (λ (x : List ℕ). octets f ++ x) t.divides; each = (g, t.each) }
  one_more before at f rest g (refused k p) t =
      let b = joined octets t.fields in
      let m = length-append (octets f) b in
      let e = t.place in
      record {
        fields = f ∷ t.fields;
        rest = t.rest;
        divides = ap (λ (x : List ℕ). octets f ++ x) t.divides ∙ sym (append_assoc (octets f) b t.rest);
        each = (g, t.each);
        wrong = subst (λ (x : List A). Wrong x k t.rest) (append_assoc before (f ∷ []) t.fields) t.wrong;
        place = omega arith;
      }

  module _ (steps : Steps) where
    told : (fuel at : ℕ) (before : List A) (s : List ℕ) → Fit s → length s < fuel → Told before at s (from before fuel at s)
    unfolding Told joined EachAfter
    told zero at before s fit h = absurd (omega arith)
    told (suc fuel) at before s fit h = go (steps.front before s fit) (told fuel)
      where
        go : Front before s → ((a : ℕ) (b : List A) (r : List ℕ) → Fit r → length r < fuel → Told b a r (from b fuel a r))
            → Told before at s (from before (suc fuel) at s)
        go (ended e) later = rw (e, steps.at_end before fuel at) (record { divides = refl; each = tt })
        go (item f rest g e) later =
            let l = ap length e ∙ length-append (octets f) rest in
            let n = steps.sized f in
            let next = from (before ++ (f ∷ [])) fuel (at + length (octets f)) rest in
            rw (e, steps.over before fuel at f rest g)
            (one_more before at f rest g next (later (at + length (octets f)) (before ++ (f ∷ [])) rest (steps.rest_fits f rest (subst Fit e fit)) (omega arith)))
        go (wrong k w) later =
            rw (steps.fault before fuel at k s w)
            (record {
              fields = [];
              rest = s;
              divides = refl;
              each = tt;
              wrong = subst (λ (x : List A). Wrong x k s) (sym (append-nil before)) w;
              place = omega arith;
            })

    row_accepted : (fs before : List A) (fuel at : ℕ) → EachAfter Good before fs → length (joined octets fs) < fuel
        → from before fuel at (joined octets fs) ≡ accepted fs
    unfolding joined EachAfter on_accepted
    row_accepted [] before zero at a h = absurd (omega arith)
    row_accepted [] before (suc fuel) at a h = steps.at_end before fuel at
    row_accepted (f ∷ fs) before zero at a h = absurd (omega arith)
    row_accepted (f ∷ fs) before (suc fuel) at a h =
        let l = length-append (octets f) (joined octets fs) in
        let n = steps.sized f in
        steps.over before fuel at f (joined octets fs) a.0
        ∙ rw (row_accepted fs (before ++ (f ∷ [])) fuel (at + length (octets f)) a.1 (omega arith))

    row_refused : (fs before : List A) (rest : List ℕ) (k fuel at : ℕ) → EachAfter Good before fs → Wrong (before ++ fs) k rest
        → length (joined octets fs ++ rest) < fuel → from before fuel at (joined octets fs ++ rest) ≡ refused k (at + length (joined octets fs))
    unfolding joined EachAfter on_accepted
    row_refused [] before rest k zero at a w h = absurd (omega arith)
    row_refused [] before rest k (suc fuel) at a w h =
        steps.fault before fuel at k rest (subst (λ (x : List A). Wrong x k rest) (append-nil before) w) ∙ ap (refused k) (omega arith)
    row_refused (f ∷ fs) before rest k zero at a w h = absurd (omega arith)
    row_refused (f ∷ fs) before rest k (suc fuel) at a w h =
        let b = joined octets fs in
        let x = append_assoc (octets f) b rest in
        let l = ap length x ∙ length-append (octets f) (b ++ rest) in
        let m = length-append (octets f) b in
        let n = steps.sized f in
        let v = subst (λ (y : List A). Wrong y k rest) (sym (append_assoc before (f ∷ []) fs)) w in
        let r = row_refused fs (before ++ (f ∷ [])) rest k fuel (at + length (octets f)) a.1 v (omega arith) in
        ap (from before (suc fuel) at) x ∙ steps.over before fuel at f (b ++ rest) a.0 ∙ rw r (ap (refused k) (omega arith))

    -- A reading accepts octets with items exactly if they are these items,
    pub accepted_rows : (before : List A) (fuel at : ℕ) (s : List ℕ) (fs : List A) → Fit s → length s < fuel
        → (from before fuel at s ≡ accepted fs) ↔ RowAfter before s fs
    unfolding Told
    accepted_rows before fuel at s fs fit h = (
      λ e. subst (Told before at s) e (told fuel at before s fit h),
      λ r.
          let d = r.divides in
          let l = ap length d in
          ap (from before fuel at) d ∙ row_accepted fs before fuel at r.each (omega arith),
    )

    -- and refuses them exactly where one is wrong after allowed ones.
    pub refused_rows : (before : List A) (fuel at : ℕ) (s : List ℕ) (k p : ℕ) → Fit s → length s < fuel
        → (from before fuel at s ≡ refused k p) ↔ RowFault before at s k p
    unfolding Told
    refused_rows before fuel at s k p fit h = (
      λ e. subst (Told before at s) e (told fuel at before s fit h),
      λ r.
          let d = r.divides in
          let l = ap length d in
          ap (from before fuel at) d
          ∙ row_refused r.fields before r.rest k fuel at r.each r.wrong (omega arith)
          ∙ ap (refused k) (sym r.place),
    )
