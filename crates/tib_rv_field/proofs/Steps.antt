-- One step of the reading takes exactly one field that the layout allows.
use Prim.Native.Nat.{ℕ, suc, ◌+◌, ◌-◌, ◌≤◌}
use native.Mathlib.Omega.{arith}
use mathlib.Core.Path.{◌≡◌, refl, sym, ap, ap₂, ◌∙◌, subst}
use mathlib.Core.Bool.{Bool, true, false, cond}
use mathlib.Core.List.{List, [], ◌∷◌, ◌++◌, append_assoc}
use lib.ListN.{length, take, drop, length-append, length-drop, take-append-drop}
use lib.Seq.{take_at, drop_at, length-take-le, take-append-le, take-take}
use lib.Dec.{eqb, ltb}
use borrow.Author.Tests.{ltb-false, le-ltb, eqb-true, eqb-false, ne_eqb, le-leb}
use Rattle.octets.specs.Number.{big_endian}
use Rattle.tib_field.specs.Name.{Name, name_step, after_name}
use Rattle.tib_field.proofs.Choices.{passes, fails}
use Rattle.tib_field.proofs.NameSteps.{next_of_name, AfterName, name_found}
use Rattle.tib_rv_field.specs.declared.Sizes.{Sizes}
use Rattle.tib_rv_field.specs.Layout.{Parts, octets, Leaf, holder}
use Rattle.tib_rv_field.specs.Reading.{Step, Done, Fault, Over, Into, following, own, counted, count_allowed, found, from_count, from_size, from_type, next_field, lead, total, parts_at}
use Rattle.tib_rv_field.specs.internal.Sizes.{sizes}
use Rattle.tib_rv_field.proofs.Counts.{size_found, announced, good_count, plain_count}

-- A field and the octets after it, part by part.
pub flat : (f : Parts) (rest : List ℕ)
    → octets f ++ rest ≡ length f.name ∷ (f.name ++ (f.octet ∷ (f.size ++ (f.contents ++ rest))))
unfolding octets
flat f rest = simp append_assoc

-- A field of these sizes at the front of octets that holds no message.
pub record Found (s : List ℕ) (z : Sizes) : Type 0 where
  pub field : Parts
  pub rest : List ℕ
  pub divides : s ≡ octets field ++ rest
  pub sized : sizes field ≡ z
  pub allowed : Leaf field

-- Octets that begin with four that count them all.
pub record Counted (m : List ℕ) : Type 0 where
  pub four : 4 ≤ length m
  pub same : big_endian (take 4 m) ≡ length m

-- A field of these sizes at the front of octets that holds octets which may be a message.
pub record Held (s : List ℕ) (z : Sizes) : Type 0 where
  pub name : List ℕ
  pub octets_held : List ℕ
  pub rest : List ℕ
  pub divides : s ≡ octets (holder name octets_held) ++ rest
  pub sized : sizes (holder name octets_held) ≡ z
  pub good : Name name
  pub measured : Counted octets_held

-- The answers of a step that finds a field.
unfoldable pub Finds : Step → Type 0
Finds Done = ⊥
Finds (Fault k) = ⊥
Finds (Over z) = Unit {0}
Finds (Into z) = Unit {0}

module _ (q : Step) (fine : Finds q) where
  no_fault : (k : ℕ) → Fault k ≡ q → ⊥
  unfolding Finds
  no_fault k e = subst Finds (sym e) fine

  -- What the step tested where it finds a field.
  pub record Tested (n c : ℕ) (s : List ℕ) : Type 0 where
    pub marker : ℕ
    pub tail : List ℕ
    pub divides : s ≡ marker ∷ tail
    pub low : marker ≤ 0x7a
    pub wide : following marker ≤ length tail
    pub count : count_allowed c marker (counted marker tail) ≡ true
    pub fits : counted marker tail - own marker ≤ length tail - following marker
    pub same : found n c marker (counted marker tail) ≡ q

  tested : (n c : ℕ) (s : List ℕ) → from_size n c s ≡ q → Tested n c s
  unfolding from_size from_count Finds
  tested n c [] e = absurd (subst Finds (sym e) fine)
  tested n c (m ∷ t) e =
      let k = counted m t in
      let left = length t - following m in
      let a = fails q (ltb 0x7a m) (Fault 16) (cond (ltb (length t) (following m)) (Fault 3) (from_count n c m k left)) (no_fault 16) e in
      let b = fails q (ltb (length t) (following m)) (Fault 3) (from_count n c m k left) (no_fault 3) a.1 in
      let d = passes q (count_allowed c m k) (cond (ltb left (k - own m)) (Fault 4) (found n c m k)) (Fault 16) (no_fault 16) b.1 in
      let f = fails q (ltb left (k - own m)) (Fault 4) (found n c m k) (no_fault 4) d.1 in
      record {
        marker = m;
        tail = t;
        divides = refl;
        low = ltb-false 0x7a m a.0;
        wide = ltb-false (length t) (following m) b.0;
        count = d.0;
        fits = ltb-false left (k - own m) f.0;
        same = f.1;
      }

  type_tested : (n : ℕ) (s : List ℕ) → from_type n s ≡ q → (c : ℕ) × (r : List ℕ) × (s ≡ c ∷ r) × Tested n c r
  unfolding from_type Finds
  type_tested n [] e = absurd (subst Finds (sym e) fine)
  type_tested n (c ∷ s) e = (c, s, refl, tested n c s e)

  -- A step that finds a field found a name.
  name_tested : (s : List ℕ) → next_field s ≡ q → AfterName Done Fault from_type s q
  unfolding next_field Finds
  name_tested s e = name_found Done Fault from_type s q (λ f. subst Finds (sym f) fine) no_fault e

  -- The octets of a field that a step finds, up to its size.
  pub record Read (s : List ℕ) : Type 0 where
    pub name : List ℕ
    pub octet : ℕ
    pub marker : ℕ
    pub tail : List ℕ
    pub divides : s ≡ length name ∷ (name ++ (octet ∷ (marker ∷ tail)))
    pub wide : following marker ≤ length tail
    pub enough : own marker ≤ counted marker tail
    pub same : found (length name) octet marker (counted marker tail) ≡ q

  pub step_read : (s : List ℕ) → next_field s ≡ q → Read s
  step_read s e =
      let n = name_tested s e in
      let y = type_tested (length n.name) n.rest n.same in
      let t = y.3 in
      record {
        name = n.name;
        octet = y.0;
        marker = t.marker;
        tail = t.tail;
        divides = n.divides ∙ ap (λ (x : List ℕ). length n.name ∷ (n.name ++ x)) (y.2 ∙ ap (λ (x : List ℕ). y.0 ∷ x) t.divides);
        wide = t.wide;
        enough = (good_count y.0 t.marker (counted t.marker t.tail) t.count).enough;
        same = t.same;
      }

found_over : (n c m k : ℕ) (z : Sizes) → found n c m k ≡ Over z
    → (c ≡ 1 → ⊥) × (record { name = n; octet = c; width = 1 + following m; contents = k - own m } ≡ z)
unfolding found
found_over n c m k z e = go (eqb c 1) refl e
  where
    go : (t : Bool) → eqb c 1 ≡ t
        → cond t (Into (record { name = n; octet = c; width = 1; contents = k }))
        (Over (record { name = n; octet = c; width = 1 + following m; contents = k - own m })) ≡ Over z
        → (c ≡ 1 → ⊥) × (record { name = n; octet = c; width = 1 + following m; contents = k - own m } ≡ z)
    go true f g = let y : ◌≡◌ {A = ℕ} 0 1 = cc in absurd (omega arith)
    go false f g = (eqb-false c 1 f, cc)

found_into : (n c m k : ℕ) (z : Sizes) → found n c m k ≡ Into z
    → (c ≡ 1) × (record { name = n; octet = c; width = 1; contents = k } ≡ z)
unfolding found
found_into n c m k z e = go (eqb c 1) refl e
  where
    go : (t : Bool) → eqb c 1 ≡ t
        → cond t (Into (record { name = n; octet = c; width = 1; contents = k }))
        (Over (record { name = n; octet = c; width = 1 + following m; contents = k - own m })) ≡ Into z
        → (c ≡ 1) × (record { name = n; octet = c; width = 1; contents = k } ≡ z)
    go true f g = (eqb-true c 1 f, cc)
    go false f g = let y : ◌≡◌ {A = ℕ} 0 1 = cc in absurd (omega arith)

pub step_found : (s : List ℕ) (z : Sizes) → next_field s ≡ Over z → Found s z
unfolding Finds octets sizes
step_found s z e =
    let n = name_tested (Over z) tt s e in
    let y = type_tested (Over z) tt (length n.name) n.rest n.same in
    let t = y.3 in
    let m = t.marker in
    let k = counted m t.tail in
    let w = following m in
    let l = k - own m in
    let o = found_over (length n.name) y.0 m k z t.same in
    let g = good_count y.0 m k t.count in
    let a : length (take w t.tail) ≡ w = length-take-le w t.tail t.wide in
    let d = length-drop w t.tail in
    let r = t.fits in
    let b : length (take l (drop w t.tail)) ≡ l = length-take-le l (drop w t.tail) (omega arith) in
    let v : take w t.tail ++ (take l (drop w t.tail) ++ drop l (drop w t.tail)) ≡ t.tail
    = rw (take-append-drop l (drop w t.tail)) (take-append-drop w t.tail) in
    let p : s ≡ length n.name ∷ (n.name ++ (y.0 ∷ (m ∷ t.tail)))
    = n.divides ∙ ap (λ (x : List ℕ). length n.name ∷ (n.name ++ x)) (y.2 ∙ ap (λ (x : List ℕ). y.0 ∷ x) t.divides) in
    let x : suc w ≡ 1 + w = omega arith in
    record {
      field = record { name = n.name; octet = y.0; size = m ∷ take w t.tail; contents = take l (drop w t.tail) };
      rest = drop l (drop w t.tail);
      divides = p ∙ sym (simp append_assoc (ap (λ (x : List ℕ). length n.name ∷ (n.name ++ (y.0 ∷ (m ∷ x)))) v));
      sized = rw (a, b, x) o.1;
      allowed =
          record {
            name = n.good;
            plain = o.0;
            size = rw b (size_found m t.tail t.low t.wide g.enough);
          };
    }

pub step_holder : (s : List ℕ) (z : Sizes) → next_field s ≡ Into z → Held s z
unfolding Finds octets sizes following own counted
step_holder s z e =
    let n = name_tested (Into z) tt s e in
    let y = type_tested (Into z) tt (length n.name) n.rest n.same in
    let t = y.3 in
    let m = t.marker in
    let o = found_into (length n.name) y.0 m (counted m t.tail) z t.same in
    let g = good_count y.0 m (counted m t.tail) t.count in
    let i : m ≡ 0x7a = g.marked o.0 in
    let k = big_endian (take 4 t.tail) in
    let c : counted m t.tail ≡ k = ap (λ (x : ℕ). counted x t.tail) i in
    let w : 4 ≤ length t.tail = subst (λ (x : ℕ). following x ≤ length t.tail) i t.wide in
    let q : 4 ≤ k = subst (λ (x : ℕ). own x ≤ counted x t.tail) i g.enough in
    let r : k - 4 ≤ length t.tail - 4 = subst (λ (x : ℕ). counted x t.tail - own x ≤ length t.tail - following x) i t.fits in
    let b : length (take k t.tail) ≡ k = length-take-le k t.tail (omega arith) in
    let p : s ≡ length n.name ∷ (n.name ++ (1 ∷ (0x7a ∷ t.tail)))
    = n.divides ∙ ap (λ (x : List ℕ). length n.name ∷ (n.name ++ x))
    (y.2 ∙ ap₂ (λ (a : ℕ) (x : List ℕ). a ∷ x) o.0 (t.divides ∙ ap (λ (a : ℕ). a ∷ t.tail) i)) in
    let v : take k t.tail ++ drop k t.tail ≡ t.tail = take-append-drop k t.tail in
    let f : record { name = length n.name; octet = 1; width = 1; contents = k } ≡ z
    = ap₂ (λ (a b : ℕ). record { name = length n.name; octet = a; width = 1; contents = b }) (sym o.0) (sym c) ∙ o.1 in
    record {
      name = n.name;
      octets_held = take k t.tail;
      rest = drop k t.tail;
      divides = p ∙ sym (simp append_assoc (ap (λ (x : List ℕ). length n.name ∷ (n.name ++ (1 ∷ (0x7a ∷ x)))) v));
      sized = rw b f;
      good = n.good;
      measured = record { four = omega arith; same = rw (take-take 4 k t.tail q) (sym b) };
    }

-- A field that the layout allows is what the step finds at the front of octets.
pub step_of_leaf : (f : Parts) (rest : List ℕ) → Leaf f → next_field (octets f ++ rest) ≡ Over (sizes f)
unfolding next_field from_type from_size from_count found sizes
step_of_leaf f rest a =
    let l = length f.contents in
    let t = announced f.size l a.size in
    let m = t.marker in
    let w = following m in
    let s = t.tail ++ (f.contents ++ rest) in
    let p : length s ≡ w + (l + length rest) = rw (length-append, length-append, t.width) in
    let k = t.count (f.contents ++ rest) in
    let d : f.size ++ (f.contents ++ rest) ≡ m ∷ s = ap (λ (x : List ℕ). x ++ (f.contents ++ rest)) t.divides in
    let z : length f.size ≡ 1 + w = ap length t.divides ∙ rw t.width (omega arith) in
    let c : own m + l - own m ≡ l = omega arith in
    rw (
      flat f rest,
      next_of_name Done Fault from_type f.name (f.octet ∷ (f.size ++ (f.contents ++ rest))) a.name,
      d,
      le-ltb 0x7a m t.low,
      le-ltb (length s) w (omega arith),
      k,
      plain_count f.octet m (own m + l) (omega arith) a.plain,
      c,
      le-ltb (length s - w) l (omega arith),
      ne_eqb f.octet 1 a.plain,
      z,
    )

pub step_of_held : (name m rest : List ℕ) → Name name → Counted m → next_field (octets (holder name m) ++ rest) ≡ Into (sizes (holder name m))
unfolding next_field from_type from_size from_count found sizes following own counted count_allowed
step_of_held name m rest good e =
    let s = m ++ rest in
    let p = length-append m rest in
    let q = e.four in
    let k : big_endian (take 4 s) ≡ length m = rw (take-append-le 4 m rest q) e.same in
    rw (
      flat (holder name m) rest,
      next_of_name Done Fault from_type name (1 ∷ (0x7a ∷ s)) good,
      le-ltb (length s) 4 (omega arith),
      k,
      le-leb 4 (length m) q,
      le-ltb (length s - 4) (length m - 4) (omega arith),
    )

pub step_of_end : next_field [] ≡ Done
unfolding next_field after_name name_step
step_of_end = refl

pub length_octets : (f : Parts) → length (octets f) ≡ total (sizes f)
unfolding octets total lead sizes
length_octets f = simp length-append (omega arith)

pub parts_of_field : (f : Parts) (rest : List ℕ) → parts_at (octets f ++ rest) (sizes f) ≡ f
unfolding parts_at sizes
parts_of_field f rest =
    let n = length f.name in
    let w = length f.size in
    let j : 1 + n ≡ suc n = omega arith in
    let k : 1 + w ≡ suc w = omega arith in
    let u = f.contents ++ rest in
    let s = f.octet ∷ (f.size ++ u) in
    rw (
      flat f rest,
      j,
      k,
      drop_at f.name s n refl,
      take_at f.name s n refl,
      take_at f.size u w refl,
      drop_at f.size u w refl,
      take_at f.contents rest (length f.contents) refl,
    )

pub rest_of_field : (f : Parts) (rest : List ℕ) → drop (total (sizes f)) (octets f ++ rest) ≡ rest
rest_of_field f rest = drop_at (octets f) rest (total (sizes f)) (length_octets f)
