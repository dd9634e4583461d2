-- The traversal to the k-th of fields that stand in octets one after the other, and what it finds.
use Prim.Native.Nat.{ℕ, zero, suc, ◌+◌, ◌-◌, ◌≤◌, ◌<◌}
use native.Mathlib.Omega.{arith}
use mathlib.Core.Path.{◌≡◌, refl, sym, ap, ◌∙◌, subst}
use mathlib.Core.List.{List, [], ◌∷◌, ◌++◌}
use mathlib.Core.Option.{Option, none, some}
use lib.ListN.{length, drop, get_elem?, length-append, length-drop}
use lib.Seq.{drop-drop, drop_at}
use Rattle.tib_field.specs.Fields.{Each, joined, placed}
use Rattle.tib_field.specs.internal.KthOf.{found_of}
use Rattle.tib_field.proofs.Fields.{Row, kth_next}

module _ {A : Type 0} (octets : A → List ℕ) (P : A → Type 0) where
  -- The fields that remain begin at i, and the `remaining`-th of them is the one that the caller looks for.
  pub record Going (s : List ℕ) (wanted : Option (ℕ × A)) (i remaining : ℕ) : Type 0 where
    pub rest : List A
    pub fields : Row octets P (drop i s) rest
    pub inside : i ≤ length s
    pub same : wanted ≡ get_elem? (placed octets i rest) remaining

  -- What stands at i: the end, and there is no such field; or a field, which is the one, or another is still to come.
  pub data Look (s : List ℕ) (wanted : Option (ℕ × A)) (i remaining : ℕ) : Type 0 where
    ends : drop i s ≡ [] → wanted ≡ none → Look s wanted i remaining
    stands : (f : A) (rest : List ℕ) → P f → drop i s ≡ octets f ++ rest → i + length (octets f) ≤ length s
        → (remaining ≡ 0 → wanted ≡ some (i, f))
        → ((remaining ≡ 0 → ⊥) → Going s wanted (i + length (octets f)) (remaining - 1))
        → Look s wanted i remaining

  module _ (s : List ℕ) (wanted : Option (ℕ × A)) (i remaining : ℕ) (now : Going s wanted i remaining) where
    at_field : (f : A) (gs : List A) → now.rest ≡ f ∷ gs → Look s wanted i remaining
    unfolding joined Each placed
    at_field f gs e =
        let n = length (octets f) in
        let d : drop i s ≡ octets f ++ joined octets gs = now.fields.divides ∙ ap (joined octets) e in
        let a = subst (Each P) e now.fields.each in
        let same : wanted ≡ get_elem? (placed octets i (f ∷ gs)) remaining
        = now.same ∙ ap (λ (fs : List A). get_elem? (placed octets i fs) remaining) e in
        let l = ap length d ∙ length-append (octets f) (joined octets gs) in
        let m = length-drop i s in
        let w = now.inside in
        let fits : i + n ≤ length s = omega arith in
        stands f (joined octets gs) a.0 d fits (λ z. same ∙ rw z)
        (λ z. record {
          rest = gs;
          fields =
              record {
                divides = sym (drop-drop n i s) ∙ ap (drop n) d ∙ drop_at (octets f) (joined octets gs) n refl;
                each = a.1;
              };
          inside = fits;
          same = same ∙ kth_next octets remaining i f gs z;
        })

    pub look : Look s wanted i remaining
    unfolding joined placed
    look = go now.rest refl
      where
        go : (fs : List A) → now.rest ≡ fs → Look s wanted i remaining
        go [] e =
            ends (now.fields.divides ∙ ap (joined octets) e)
            (now.same ∙ ap (λ (fs : List A). get_elem? (placed octets i fs) remaining) e)
        go (f ∷ gs) e = at_field f gs e

  -- Where the field that was found stands.
  pub record KthStands (s : List ℕ) (place : ℕ) (f : A) : Type 0 where
    pub rest : List ℕ
    pub divides : drop place s ≡ octets f ++ rest
    pub inside : place + length (octets f) ≤ length s
    pub good : P f

  pub kth_stands : (s : List ℕ) (wanted : Option (ℕ × A)) (i remaining : ℕ) → Going s wanted i remaining → (place : ℕ) (f : A)
      → wanted ≡ some (place, f) → KthStands s place f
  kth_stands s wanted i zero now place f e = go (look s wanted i zero now)
    where
      go : Look s wanted i zero → KthStands s place f
      go (ends d w) = let z : ◌≡◌ {A = ℕ} 0 1 = cc in absurd (omega arith)
      go (stands g rest p d fits this later) =
          let h = this refl in
          let q : ◌≡◌ {A = ℕ × A} (i, g) (place, f) = cc in
          let a : i ≡ place = ap (λ (x : ℕ × A). x.0) q in
          let b : g ≡ f = ap (λ (x : ℕ × A). x.1) q in
          subst (λ (x : ℕ). KthStands s x f) a (subst (KthStands s i) b (record { rest = rest; divides = d; inside = fits; good = p }))
  kth_stands s wanted i (suc remaining) now place f e =
      go (look s wanted i (suc remaining) now) (λ j g. kth_stands s wanted j remaining g place f e)
    where
      go : Look s wanted i (suc remaining) → ((j : ℕ) → Going s wanted j remaining → KthStands s place f) → KthStands s place f
      go (ends d w) next = let z : ◌≡◌ {A = ℕ} 0 1 = cc in absurd (omega arith)
      go (stands g rest p d fits this later) next =
          let l : suc remaining - 1 ≡ remaining = omega arith in
          next (i + length (octets g)) (subst (Going s wanted (i + length (octets g))) l (later (omega arith)))

-- What a traversal that finds each field by its sizes says of the field that is looked for: a K, which is `at` a place or `absent`.
module _ {A Z K : Type 0} (octets : A → List ℕ) (P : A → Type 0) (sizes : A → Z) (total : Z → ℕ) (at : ℕ → Z → K) (absent : K)
    (measured : (f : A) → (1 ≤ total (sizes f)) × (length (octets f) ≡ total (sizes f)))
    (s : List ℕ) (wanted : Option (ℕ × A)) (i remaining : ℕ) (now : Going octets P s wanted i remaining) where
  abbrev found : K
  found = found_of sizes at absent wanted

  -- No field stands at i.
  none_here : ((f : A) (rest : List ℕ) → P f → drop i s ≡ octets f ++ rest → ⊥) → absent ≡ found
  unfolding found_of
  none_here never = go (look octets P s wanted i remaining now)
    where
      go : Look octets P s wanted i remaining → absent ≡ found
      go (ends d w) = sym (ap (found_of sizes at absent) w)
      go (stands f rest p d fits this later) = absurd (never f rest p d)

  -- None stands at the end of the octets.
  pub none_at_end : length s ≤ i → absent ≡ found
  none_at_end h =
      none_here
      (λ f rest p d.
      let l = ap length d ∙ length-append (octets f) rest in
      let m = length-drop i s in
      let n = measured f in
      let a = n.0 in
      let b = n.1 in
      omega arith)

  -- A field stands at i: it is the one, or another is still to come.
  pub record OneMore (z : Z) : Type 0 where
    pub takes : i < i + total z
    pub fits : i + total z ≤ length s
    pub this_one : remaining ≡ 0 → at i z ≡ found
    pub later_one : (j : ℕ) → (remaining ≡ 0 → ⊥) → j ≡ i + total z → Going octets P s wanted j (remaining - 1)

  pub one_here : (z : Z) → (drop i s ≡ [] → ⊥) → ((f : A) (rest : List ℕ) → P f → drop i s ≡ octets f ++ rest → sizes f ≡ z) → OneMore z
  unfolding found_of
  one_here z more sized = go (look octets P s wanted i remaining now)
    where
      go : Look octets P s wanted i remaining → OneMore z
      go (ends d w) = absurd (more d)
      go (stands f rest p d fits this later) =
          let q = sized f rest p d in
          let m = measured f in
          let b = m.0 in
          let t : length (octets f) ≡ total z = m.1 ∙ ap total q in
          let e : total (sizes f) ≡ total z = ap total q in
          record {
            takes = omega arith;
            fits = omega arith;
            this_one = λ h. ap (at i) (sym q) ∙ sym (ap (found_of sizes at absent) (this h));
            later_one = λ j h place. subst (λ (x : ℕ). Going octets P s wanted x (remaining - 1)) (ap (λ (x : ℕ). i + x) t ∙ sym place) (later h);
          }

  -- The field that was found.
  pub record KthFound (place : ℕ) (z : Z) : Type 0 where
    pub field : A
    pub same : wanted ≡ some (place, field)
    pub sized : sizes field ≡ z
    pub stands_there : KthStands octets P s place field
    pub inside : place + total z ≤ length s

  pub kth_found : ((p : ℕ) (y : Z) → absent ≡ at p y → ⊥) → ((p q : ℕ) (y z : Z) → at p y ≡ at q z → (p ≡ q) × (y ≡ z)) → (place : ℕ) (z : Z)
      → found ≡ at place z → KthFound place z
  unfolding found_of
  kth_found apart same place z e = go wanted refl e
    where
      go : (w : Option (ℕ × A)) → wanted ≡ w → found_of sizes at absent w ≡ at place z → KthFound place z
      go none f g = absurd (apart place z g)
      go (some p) f g =
          let x = same p.0 place (sizes p.1) z g in
          let q : wanted ≡ some (place, p.1) = f ∙ ap (λ (n : ℕ). some (n, p.1)) x.0 in
          let h = kth_stands octets P s wanted i remaining now place p.1 q in
          let l = h.inside in
          let m : length (octets p.1) ≡ total z = (measured p.1).1 ∙ ap total x.1 in
          record { field = p.1; same = q; sized = x.1; stands_there = h; inside = omega arith }

  pub kth_absent : ((p : ℕ) (y : Z) → at p y ≡ absent → ⊥) → found ≡ absent → wanted ≡ none
  unfolding found_of
  kth_absent apart e = go wanted refl e
    where
      go : (w : Option (ℕ × A)) → wanted ≡ w → found_of sizes at absent w ≡ absent → wanted ≡ none
      go none f g = f
      go (some p) f g = absurd (apart p.0 (sizes p.1) g)
