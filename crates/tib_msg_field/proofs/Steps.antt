-- One step of the reading takes exactly one field that the layout allows.
use Prim.Native.Nat.{ℕ, suc, ◌+◌}
use native.Mathlib.Omega.{arith}
use mathlib.Core.Path.{◌≡◌, refl, sym, ap, subst}
use mathlib.Core.List.{List, [], ◌∷◌, ◌++◌, append_assoc}
use lib.ListN.{length, take, drop, length-append, take-append-drop}
use lib.Seq.{take_at, drop_at, length-take-le}
use lib.Dec.{ltb}
use borrow.Author.Tests.{ltb-false, le-ltb}
use Rattle.octets.specs.Number.{big_endian}
use Rattle.tib_field.specs.Name.{Name, name_step, after_name}
use Rattle.tib_field.proofs.Choices.{passes, fails}
use Rattle.tib_field.proofs.NameSteps.{next_of_name, name_found}
use Rattle.tib_msg_field.specs.declared.Sizes.{Sizes}
use Rattle.tib_msg_field.specs.Layout.{kind, size_width, size_allowed, Parts, octets, Allowed}
use Rattle.tib_field.specs.Steps.{Done, Fault, Over}
use Rattle.tib_msg_field.specs.Reading.{HintStep, HintFault, Size, type_allowed, hint_at, with_hint, from_data, from_size, from_type, next_field, total, parts_at}
use Rattle.tib_msg_field.specs.internal.Sizes.{sizes}
use Rattle.tib_msg_field.proofs.Hints.{is_true, true_is, good_type, hint_found, hint_of, type_of}

-- A field and the octets after it, part by part.
pub flat : (f : Parts) (rest : List ℕ)
    → octets f ++ rest ≡ length f.name ∷ (f.name ++ (f.octet ∷ (f.size ++ (f.contents ++ (f.hint ++ rest)))))
unfolding octets
flat f rest = simp append_assoc

-- An allowed field of these sizes at the front of octets.
pub record Found (s : List ℕ) (z : Sizes) : Type 0 where
  pub field : Parts
  pub rest : List ℕ
  pub divides : s ≡ octets field ++ rest
  pub sized : sizes field ≡ z
  pub allowed : Allowed field

fault_not_over : (k : ℕ) (z : Sizes) → Fault k ≡ Over z → ⊥
fault_not_over k z e = let y : ◌≡◌ {A = ℕ} 0 1 = cc in absurd (omega arith)

-- A step over a field had a hint of some size.
over_hint : (n c w l : ℕ) (p : HintStep) (z : Sizes) → with_hint n c w l p ≡ Over z
    → (h : ℕ) × (p ≡ Size h) × (record { name = n; octet = c; width = w; contents = l; hint = h } ≡ z)
unfolding with_hint
over_hint n c w l (HintFault k) z e = let y : ◌≡◌ {A = ℕ} 0 1 = cc in absurd (omega arith)
over_hint n c w l (Size h) z e = (h, refl, cc)

module _ (name : List ℕ) (good : Name name) (z : Sizes) where
  type_found : (s : List ℕ) → from_type (length name) s ≡ Over z → Found (length name ∷ (name ++ s)) z
  unfolding from_type from_size from_data octets sizes
  type_found [] e = let y : ◌≡◌ {A = ℕ} 0 1 = cc in absurd (omega arith)
  type_found (c ∷ s) e =
      let w = size_width c in
      let l = big_endian (take w s) in
      let p = passes (Over z) (type_allowed c) (from_size (length name) c w s) (Fault 16) (fault_not_over 16 z) e in
      let q = fails (Over z) (ltb (length s) w) (Fault 3) _ (fault_not_over 3 z) p.1 in
      let r = passes (Over z) (size_allowed (kind c) l) (from_data (length name) c w l (drop w s)) (Fault 16) (fault_not_over 16 z) q.1 in
      let t = fails (Over z) (ltb (length (drop w s)) l) (Fault 4) _ (fault_not_over 4 z) r.1 in
      let g = good_type c p.0 in
      let h = over_hint (length name) c w l (hint_at c l (drop l (drop w s))) z t.1 in
      let f = hint_found c l (drop l (drop w s)) h.0 g h.1 in
      let a : length (take w s) ≡ w = length-take-le w s (ltb-false (length s) w q.0) in
      let b : length (take l (drop w s)) ≡ l = length-take-le l (drop w s) (ltb-false (length (drop w s)) l t.0) in
      let d : take w s ++ (take l (drop w s) ++ (f.hint ++ f.rest)) ≡ s
      = rw (← f.divides, take-append-drop l (drop w s)) (take-append-drop w s) in
      record {
        field = record { name = name; octet = c; size = take w s; contents = take l (drop w s); hint = f.hint };
        rest = f.rest;
        divides = sym (simp append_assoc (ap (λ (r : List ℕ). length name ∷ (name ++ (c ∷ r))) d));
        sized = rw (a, b, f.sized) h.2;
        allowed =
            record {
              name = good;
              clear = g.clear;
              known = g.known;
              width = a;
              size = sym b;
              contents = rw b (is_true (size_allowed (kind c) l) r.0);
              hint = rw b f.allowed;
            };
      }

pub step_found : (s : List ℕ) (z : Sizes) → next_field s ≡ Over z → Found s z
unfolding next_field
step_found s z e =
    let r = name_found Done Fault from_type s (Over z) (λ f. let y : ◌≡◌ {A = ℕ} 0 1 = cc in absurd (omega arith)) (λ k. fault_not_over k z) e in
    subst (λ (x : List ℕ). Found x z) (sym r.divides) (type_found r.name r.good z r.rest r.same)

-- An allowed field at the front of octets is what the step finds.
pub step_of_field : (f : Parts) (rest : List ℕ) → Allowed f → next_field (octets f ++ rest) ≡ Over (sizes f)
unfolding next_field from_type from_size from_data with_hint octets sizes
step_of_field f rest a =
    let s = f.size ++ (f.contents ++ (f.hint ++ rest)) in
    let t = f.contents ++ (f.hint ++ rest) in
    let p = length-append f.size t in
    let q = length-append f.contents (f.hint ++ rest) in
    rw (
      flat f rest,
      next_of_name Done Fault from_type f.name (f.octet ∷ s) a.name,
      type_of f.octet (length f.contents) f.hint a.clear a.known a.hint,
      ← a.width,
      le-ltb (length s) (length f.size) (omega arith),
      take_at f.size t (length f.size) refl,
      drop_at f.size t (length f.size) refl,
      a.size,
      true_is (size_allowed (kind f.octet) (length f.contents)) a.contents,
      le-ltb (length t) (length f.contents) (omega arith),
      drop_at f.contents (f.hint ++ rest) (length f.contents) refl,
      hint_of f.octet (length f.contents) f.hint rest a.hint,
    )

pub step_of_end : next_field [] ≡ Done
unfolding next_field after_name name_step
step_of_end = refl

pub length_octets : (f : Parts) → length (octets f) ≡ total (sizes f)
unfolding octets total sizes
length_octets f = simp length-append (omega arith)

pub parts_of_field : (f : Parts) (rest : List ℕ) → parts_at (octets f ++ rest) (sizes f) ≡ f
unfolding parts_at octets sizes
parts_of_field f rest =
    let n = length f.name in
    let w = length f.size in
    let j : 1 + n ≡ suc n = omega arith in
    let k : 1 + w ≡ suc w = omega arith in
    let u = f.contents ++ (f.hint ++ rest) in
    let s = f.octet ∷ (f.size ++ u) in
    rw (
      flat f rest,
      j,
      k,
      drop_at f.name s n refl,
      take_at f.name s n refl,
      take_at f.size u w refl,
      drop_at f.size u w refl,
      take_at f.contents (f.hint ++ rest) (length f.contents) refl,
      drop_at f.contents (f.hint ++ rest) (length f.contents) refl,
      take_at f.hint rest (length f.hint) refl,
    )
