-- The loop invariant of the traversal of one message's fields, and what each turn of the loop does to it.
use Prim.Native.Nat.{ℕ, zero, suc, ◌+◌, ◌-◌, ◌≤◌, ◌<◌, max}
use native.Mathlib.Omega.{arith}
use mathlib.Core.Path.{◌≡◌, refl, ap, ◌∙◌}
use mathlib.Core.List.{List, ◌++◌}
use lib.ListN.{length, get_or, take, drop, length-append, length-drop}
use Rattle.octets.proofs.Slices.{length_zero, tail_part}
use lib.Seq.{drop-drop, get_or-drop}
use borrow.Author.Tests.{ne_eqb}
use Rattle.tib_rv_field.specs.declared.Sizes.{Sizes}
use Rattle.reading.specs.Reading.{Reading, accepted, refused}
use Rattle.reading.specs.internal.Verdicts.{verdict_of}
use Rattle.reading.specs.internal.Verdicts.{Verdict}
use Rattle.reading.specs.internal.Verdicts.{Accepted, Refused}
use Rattle.reading.proofs.Traversal as traversal
use Rattle.reading.proofs.Traversal.{Traversal}
use Rattle.tib_rv_field.specs.Layout.{Parts, octets, holder, magic, Fields, end, leaf, nested, joined, message, depth}
use Rattle.tib_rv_field.specs.Reading.{Step, Done, Fault, Over, Into, next_field, lead, total, parts_at, Inner, nested_of, after_step, fields_from, header_fault, message_from}
use Rattle.tib_rv_field.specs.internal.Sizes.{sizes}
use Rattle.tib_field.specs.Steps.{Fault as Refusing, Over as Whole}
use Rattle.tib_rv_field.specs.declared.Extent.TheVariants.{Plain, Holder}
use Rattle.tib_rv_field.specs.internal.Measured.{measured}
use Rattle.tib_rv.specs.CheckAndField.{count}
use Rattle.tib_rv_field.proofs.Steps.{step_found, step_holder, step_of_end, length_octets}
use Rattle.tib_rv_field.proofs.WrongFields.{step_done}
use Rattle.tib_rv_field.proofs.Accepted.{accepted_good, field_size, depth_positive}

-- A field that is found lies within the octets, and takes one of them or more.
inside_of : (f : Parts) (rest s : List ℕ) (z : Sizes) → s ≡ octets f ++ rest → sizes f ≡ z → (1 ≤ total z) × (total z ≤ length s)
inside_of f rest s z d e =
    let l = ap length d ∙ length-append (octets f) rest in
    let m = length_octets f in
    let k : total (sizes f) ≡ total z = ap total e in
    let h = field_size f in
    (omega arith, omega arith)

pub over_inside : (s : List ℕ) (z : Sizes) → next_field s ≡ Over z → (1 ≤ total z) × (total z ≤ length s)
over_inside s z e = let f = step_found s z e in inside_of f.field f.rest s z f.divides f.sized

pub into_inside : (s : List ℕ) (z : Sizes) → next_field s ≡ Into z → (1 ≤ total z) × (total z ≤ length s)
into_inside s z e = let f = step_holder s z e in inside_of (holder f.name f.octets_held) f.rest s z f.divides f.sized

-- The data of a field of these sizes that begins at i.
pub data_part : (s : List ℕ) (i : ℕ) (z : Sizes) → (parts_at (drop i s) z).contents ≡ take (i + total z - (i + lead z)) (drop (i + lead z) s)
unfolding parts_at total lead
data_part s i z =
    let a : i + (2 + z.name + z.width + z.contents) - (i + (2 + z.name + z.width)) ≡ z.contents = omega arith in
    let b : i + (1 + z.name + (1 + z.width)) ≡ i + (2 + z.name + z.width) = omega arith in
    rw (a, drop-drop (1 + z.width) (1 + z.name) (drop i s), drop-drop (1 + z.name + (1 + z.width)) i s, b)

-- The data of a field lie within it.
pub lead_within : (z : Sizes) → (1 ≤ lead z) × (lead z ≤ total z)
unfolding total lead
lead_within z = (omega arith, omega arith)

-- The field that holds a message has three octets more before its data than its name has.
lead_read : (s : List ℕ) (z : Sizes) → next_field s ≡ Into z → 3 + get_or s 0 0 ≡ lead z
unfolding octets sizes lead
lead_read s z e =
    let f = step_holder s z e in
    let a : get_or s 0 0 ≡ length f.name = ap (λ (r : List ℕ). get_or r 0 0) f.divides in
    let b = ap lead f.sized in
    omega arith

pub lead_at : (s : List ℕ) (i : ℕ) (z : Sizes) → next_field (drop i s) ≡ Into z → (x : ℕ) → x ≡ get_or s i 0 → i + 3 + x ≡ i + lead z
lead_at s i z e x h =
    let a = lead_read (drop i s) z e in
    let p : i + 0 ≡ i = omega arith in
    let b : get_or (drop i s) 0 0 ≡ get_or s i 0 = get_or-drop i s 0 0 ∙ ap (λ (k : ℕ). get_or s k 0) p in
    omega arith

-- What stands at i, by what the function that measures fields finds there.
module _ (s : List ℕ) (i : ℕ) (inside : i < length s) where
  abbrev rest_at : List ℕ
  rest_at = take (length s - i) (drop i s)

  same_rest : measured (next_field rest_at) ≡ measured (next_field (drop i s))
  same_rest = ap (λ (r : List ℕ). measured (next_field r)) (tail_part s i)

  abbrev pub Found : ℕ → (Sizes → Step) → Type 0
  Found n step = (z : Sizes) × (next_field (drop i s) ≡ step z) × (n ≡ total z)

  pub leaf_here : (n : ℕ) → Whole (Plain n) ≡ measured (next_field rest_at) → Found n Over
  unfolding measured
  leaf_here n e = go (next_field (drop i s)) refl (e ∙ same_rest)
    where
      go : (p : Step) → next_field (drop i s) ≡ p → Whole (Plain n) ≡ measured p → Found n Over
      go Done g h = let d = ap length (step_done (drop i s) g) in let l = length-drop i s in absurd (omega arith)
      go (Fault k) g h = let y : ◌≡◌ {A = ℕ} 0 1 = cc in absurd (omega arith)
      go (Over z) g h = (z, g, cc)
      go (Into z) g h = let y : ◌≡◌ {A = ℕ} 0 1 = cc in absurd (omega arith)

  pub fault_here : (k : ℕ) → Refusing k ≡ measured (next_field rest_at) → next_field (drop i s) ≡ Fault k
  unfolding measured
  fault_here k e = go (next_field (drop i s)) refl (e ∙ same_rest)
    where
      go : (p : Step) → next_field (drop i s) ≡ p → Refusing k ≡ measured p → next_field (drop i s) ≡ Fault k
      go Done g h = let y : ◌≡◌ {A = ℕ} 0 1 = cc in absurd (omega arith)
      go (Fault m) g h = let d : m ≡ k = cc in g ∙ ap Fault d
      go (Over z) g h = let y : ◌≡◌ {A = ℕ} 0 1 = cc in absurd (omega arith)
      go (Into z) g h = let y : ◌≡◌ {A = ℕ} 0 1 = cc in absurd (omega arith)

  pub holder_here : (n : ℕ) → Whole (Holder n) ≡ measured (next_field rest_at) → Found n Into
  unfolding measured
  holder_here n e = go (next_field (drop i s)) refl (e ∙ same_rest)
    where
      go : (p : Step) → next_field (drop i s) ≡ p → Whole (Holder n) ≡ measured p → Found n Into
      go Done g h = let y : ◌≡◌ {A = ℕ} 0 1 = cc in absurd (omega arith)
      go (Fault k) g h = let y : ◌≡◌ {A = ℕ} 0 1 = cc in absurd (omega arith)
      go (Over z) g h = let y : ◌≡◌ {A = ℕ} 0 1 = cc in absurd (omega arith)
      go (Into z) g h = (z, g, cc)

module _ (inner : Inner) (at : ℕ) (s : List ℕ) where
  abbrev pub whole : Verdict
  whole = traversal.whole count depth fields_from inner at 8 s

  -- After i octets, with f fields so far of depth d.
  abbrev pub State : ℕ → ℕ → ℕ → Type 0
  State = Traversal count depth fields_from inner at 8 s inner

  pub start : 8 ≤ length s → State 8 0 1
  start = traversal.start count depth fields_from inner at 8 s depth_positive

  module _ (i f d : ℕ) (now : State i f d) where
    pub at_end : length s ≤ i → Accepted f d ≡ whole
    unfolding fields_from after_step count depth
    at_end h =
        let l = length-drop i s in
        let e = ap next_field (length_zero (drop i s) (omega arith)) ∙ step_of_end in
        traversal.at_end count depth fields_from inner at 8 s inner i f d now end refl refl (rw e)

    pub at_fault : (k : ℕ) → next_field (drop i s) ≡ Fault k → Refused k (at + i) ≡ whole
    unfolding fields_from after_step
    at_fault k e = traversal.at_fault count depth fields_from inner at 8 s inner i f d now k (at + i) (rw e)

    -- The end of a field lies within the octets, and beyond its start.
    fits : (z : Sizes) → (1 ≤ total z) × (total z ≤ length (drop i s)) → (i < i + total z) × (i + total z ≤ length s)
    fits z h = traversal.forward count depth fields_from inner at 8 s inner i f d now (total z) (i + total z) h.0 h.1 refl

    pub over_fits : (z : Sizes) → next_field (drop i s) ≡ Over z → (i < i + total z) × (i + total z ≤ length s)
    over_fits z e = fits z (over_inside (drop i s) z e)

    pub into_fits : (z : Sizes) → next_field (drop i s) ≡ Into z → (i < i + total z) × (i + total z ≤ length s)
    into_fits z e = fits z (into_inside (drop i s) z e)

    pub over_leaf : (z : Sizes) (j : ℕ) → next_field (drop i s) ≡ Over z → j ≡ i + total z → State j (f + 1) d
    unfolding fields_from after_step count depth
    over_leaf z j e place =
        let h = over_inside (drop i s) z e in
        traversal.over count depth fields_from inner at 8 s inner i f d now (total z) j h.0 h.1 place inner (at + i + total z) (omega arith)
        (leaf (parts_at (drop i s) z)) (λ x. refl) (λ x. refl) (rw e)

    -- A field that holds a message. Its octets are those from a up to e.
    module _ (z : Sizes) (a e : ℕ) (w : Verdict) (k : next_field (drop i s) ≡ Into z) (p : a ≡ i + lead z) (q : e ≡ i + total z)
        (o : w ≡ verdict_of count depth (inner (at + i) (at + a) (take (e - a) (drop a s)))) where
      abbrev message_held : Reading Fields
      message_held = inner (at + i) (at + i + lead z) (parts_at (drop i s) z).contents

      inner_verdict : w ≡ verdict_of count depth message_held
      inner_verdict = let y : at + i + lead z ≡ at + a = omega arith in rw (y, data_part s i z, ← p, ← q) o

      pub over_nested : (g h m : ℕ) → w ≡ Accepted g h → g ≤ e - a → m ≡ max d (h + 1) → State e (f + (1 + g)) m
      unfolding fields_from after_step nested_of count depth
      over_nested g h m v b n =
          let x = into_inside (drop i s) z k in
          let l = lead_within z in
          let l₀ = l.0 in
          let l₁ = l.1 in
          traversal.into count depth fields_from inner at 8 s inner i f d now (total z) e x.0 x.1 q inner (at + i + total z) (omega arith)
          (nested_of (parts_at (drop i s) z)) (λ x y. refl) (λ x y. refl) message_held w g h m (rw k) inner_verdict v (omega arith) n

      pub refused_nested : (number place : ℕ) → w ≡ Refused number place → Refused number place ≡ whole
      unfolding fields_from after_step
      refused_nested number place v =
          traversal.at_nested_fault count depth fields_from inner at 8 s inner i f d now (nested_of (parts_at (drop i s) z)) message_held
          (fields_from inner (now.fuel - 1) (at + i + total z) (drop (total z) (drop i s))) w number place (rw k) inner_verdict v

-- A message has no more fields than octets.
holder_length : (name m : List ℕ) → 1 + length m ≤ length (octets (holder name m))
unfolding total lead sizes
holder_length name m = let l = length_octets (holder name m) in omega arith

fields_few : (fs : Fields) → count fs ≤ length (joined fs)
unfolding count joined
fields_few end = omega arith
fields_few (leaf f rest) =
    let k = field_size f in
    let h = fields_few rest in
    rw length-append (omega arith)
fields_few (nested name size inside rest) =
    let m = size ++ (magic ++ joined inside) in
    let k = holder_length name m in
    let l = length-append size (magic ++ joined inside) in
    let p = fields_few inside in
    let q = fields_few rest in
    rw length-append (omega arith)

-- The counts of an accepted message are small.
pub counts_small : (levels field at : ℕ) (s : List ℕ) (f d : ℕ) → verdict_of count depth (message_from levels field at s) ≡ Accepted f d → (f ≤ length s) × (d ≤ levels)
unfolding verdict_of message
counts_small levels field at s f d e = go (message_from levels field at s) refl e
  where
    go : (r : Reading Fields) → message_from levels field at s ≡ r → verdict_of count depth r ≡ Accepted f d → (f ≤ length s) × (d ≤ levels)
    go (accepted fs) h w =
        let g = accepted_good levels field at s fs h in
        let p : count fs ≡ f = cc in
        let q : depth fs ≡ d = cc in
        let k = fields_few fs in
        let l = ap length g.divides ∙ length-append (take 4 s) (magic ++ joined fs) in
        let m = g.fields.shallow in
        (omega arith, omega arith)
    go (refused number place) h w = let z : ◌≡◌ {A = ℕ} 0 1 = cc in absurd (omega arith)

-- A message whose header is good, where it is not too deep, is its fields.
pub header_open : (levels field at : ℕ) (s : List ℕ) → (levels ≡ 0 → ⊥) → header_fault s ≡ 0
    → verdict_of count depth (fields_from (message_from (levels - 1)) (suc (length s)) (at + 8) (drop 8 s)) ≡ verdict_of count depth (message_from levels field at s)
unfolding message_from
header_open zero field at s h e = absurd (h refl)
header_open (suc levels) field at s h e =
    let k : suc levels - 1 ≡ levels = omega arith in
    rw (k, e)

pub header_bad : (levels field at : ℕ) (s : List ℕ) (k : ℕ) → (levels ≡ 0 → ⊥) → k ≡ header_fault s → (k ≡ 0 → ⊥)
    → Refused k at ≡ verdict_of count depth (message_from levels field at s)
unfolding message_from verdict_of
header_bad zero field at s k h e n = absurd (h refl)
header_bad (suc levels) field at s k h e n = rw (← e, ne_eqb k 0 n)

pub too_deep_lem : (levels field at : ℕ) (s : List ℕ) → levels ≡ 0 → Refused 5 field ≡ verdict_of count depth (message_from levels field at s)
unfolding message_from verdict_of
too_deep_lem levels field at s e = rw e
