-- The traversal to the k-th outermost field of a message that is accepted, and the answer for the field that it finds.
use Prim.Native.Nat.{ℕ, ◌+◌, ◌-◌, ◌≤◌, ◌<◌}
use native.Mathlib.Omega.{arith}
use mathlib.Core.Path.{◌≡◌, refl, sym, ap, ◌∙◌}
use mathlib.Core.List.{List, ◌++◌}
use mathlib.Core.Option.{Option, none, some}
use Rattle.std.specs.Prelude.{Some, None}
use lib.ListN.{length, take, drop, length-drop}
use Rattle.octets.proofs.Slices.{tail_part}
use Rattle.tib_field.specs.declared.FieldAnswer.{FieldAnswer}
use Rattle.reading.specs.internal.Verdicts.{IsAccepted}
use Rattle.tib_field.specs.Name.{Name}
use Rattle.tib_field.specs.Fields.{Each, joined as joinedParts}
use Rattle.tib_field.specs.Kth.{field_or_absent}
use Rattle.tib_field.specs.internal.KthOf.{kth_of}
use Rattle.tib_field.specs.Refused.{refused_field}
use Rattle.tib_field.proofs.Kths.{Going as Passing, Look, ends, stands, look, OneMore, none_at_end, one_here, kth_found, kth_absent}
use Rattle.tib_field.proofs.ReadingLaws.{field_of_kth}
use Rattle.tib_rv_field.specs.declared.Sizes.{Sizes}
use Rattle.tib_rv_field.specs.Layout.{Parts, octets, Leaf, holder, Fields, end, leaf, nested, joined, message, Allowed}
use Rattle.tib_rv_field.specs.Reading.{next_field, lead, total, reading}
use Rattle.tib_rv_field.specs.internal.Sizes.{sizes}
use Rattle.tib_rv.specs.CheckAndField.{outermost, shown, places, field}
use Rattle.tib_rv.specs.internal.Found.{at, any_field, HasField, found_at, shown_sizes}
use Rattle.tib_rv_field.proofs.Steps.{Counted, step_of_leaf, step_of_held, step_of_end, length_octets}
use Rattle.tib_rv_field.proofs.Accepted.{message_counted, message_parts, accepted_message, field_size}

-- An outermost field: one that holds no message, or one that holds octets that count themselves.
pub data Outermost : Parts → Type 0 where
  plain : (f : Parts) → Leaf f → Outermost f
  holding : (name m : List ℕ) → Name name → Counted m → Outermost (holder name m)

pub outermost_joined : (fs : Fields) → joined fs ≡ joinedParts octets (outermost fs)
unfolding joined outermost joinedParts message
outermost_joined end = refl
outermost_joined (leaf f rest) = ap (λ (r : List ℕ). octets f ++ r) (outermost_joined rest)
outermost_joined (nested name size inside rest) =
    ap (λ (r : List ℕ). octets (holder name (message size inside)) ++ r) (outermost_joined rest)

outermost_all : (fs : Fields) → Allowed fs → Each Outermost (outermost fs)
unfolding outermost Each Allowed
outermost_all end a = tt
outermost_all (leaf f rest) a = (plain f a.0, outermost_all rest a.1)
outermost_all (nested name size inside rest) a =
    (holding name (message size inside) a.0.0 (message_counted size inside a.0.1).0, outermost_all rest a.1)

-- What a step finds, of either kind.
abbrev pub next : List ℕ → Option Sizes
next s = any_field (next_field s)

found_first : (f : Parts) (rest : List ℕ) → Outermost f → any_field (next_field (octets f ++ rest)) ≡ some (sizes f)
unfolding any_field
found_first g rest (plain f l) = rw (step_of_leaf f rest l)
found_first g rest (holding name m n c) = rw (step_of_held name m rest n c)

-- The field that is looked for.
abbrev wanted : List ℕ → ℕ → Option (ℕ × Parts)
wanted s k = kth_of places k (reading s)

-- The fields that remain begin at i, and the `remaining`-th of them is the one that the caller looks for.
abbrev pub Going : List ℕ → ℕ → ℕ → ℕ → Type 0
Going s k i remaining = Passing octets Outermost s (wanted s k) i remaining

pub start : (s : List ℕ) (k : ℕ) → IsAccepted (reading s) → Going s k 8 k
unfolding IsAccepted kth_of places
start s k a =
    let g = (accepted_message s a.0 a.1).1 in
    let p = message_parts 8 s a.0 g in
    record {
      rest = outermost a.0;
      fields = record { divides = p.1 ∙ outermost_joined a.0; each = outermost_all a.0 g.fields.allowed };
      inside = p.0.whole;
      same = rw a.1;
    }

pub measured : (f : Parts) → (1 ≤ total (sizes f)) × (length (octets f) ≡ total (sizes f))
measured f = let h = field_size f in let l = length_octets f in (omega arith, l)

same_found : (p q : ℕ) (x y : Sizes) → at p x ≡ at q y → (p ≡ q) × (x ≡ y)
same_found p q x y e =
    let h : ◌≡◌ {A = ℕ × Sizes} (p, x) (q, y) = cc in
    (ap (λ (t : ℕ × Sizes). t.0) h, ap (λ (t : ℕ × Sizes). t.1) h)

module _ (s : List ℕ) (k i remaining : ℕ) (now : Going s k i remaining) where
  -- Before the end of the octets a field stands,
  pub field_here : i < length s → HasField (take (length s - i) (drop i s))
  field_here h = go (look octets Outermost s (wanted s k) i remaining now)
    where
      go : Look octets Outermost s (wanted s k) i remaining → HasField (take (length s - i) (drop i s))
      go (ends d w) = let l = ap length d in let m = length-drop i s in absurd (omega arith)
      go (stands f rest o d fits this later) = (sizes f, ap next (tail_part s i ∙ d) ∙ found_first f rest o)

  -- and none stands at their end.
  pub ended : length s ≤ i → None ≡ found_at (wanted s k)
  ended h = none_at_end octets Outermost sizes total at None measured s (wanted s k) i remaining now h

  pub one_more : (z : Sizes) → next (take (length s - i) (drop i s)) ≡ some z → OneMore octets Outermost sizes total at None measured s (wanted s k) i remaining now z
  unfolding any_field
  one_more z g =
      let e = ap next (sym (tail_part s i)) ∙ g in
      one_here octets Outermost sizes total at None measured s (wanted s k) i remaining now z
      (λ d. let n : next (drop i s) ≡ none = ap next d ∙ rw step_of_end in let y : ◌≡◌ {A = ℕ} 0 1 = cc in absurd (omega arith))
      (λ f rest o d. let n = ap next d ∙ found_first f rest o in cc)

-- The answer for a field is that for its sizes.
shown_sizes_lem : (p : ℕ) (f : Parts) → shown_sizes p (sizes f) ≡ shown p f
unfolding shown_sizes shown sizes lead
shown_sizes_lem p f =
    let e : p + (2 + length f.name + length f.size) ≡ p + 2 + length f.name + length f.size = omega arith in
    rw e

-- What the answer for a field that was found rests on.
pub record KthFound (s : List ℕ) (place : ℕ) (z : Sizes) (answer : FieldAnswer) : Type 0 where
  pub inside : place + total z ≤ length s
  pub shows : shown_sizes place z ≡ answer

module _ (s : List ℕ) (k : ℕ) (a : IsAccepted (reading s)) where
  pub field_found : (place : ℕ) (z : Sizes) → found_at (wanted s k) ≡ Some (place, z) → KthFound s place z (field s k)
  unfolding field_or_absent field
  field_found place z e =
      let h = kth_found octets Outermost sizes total at None measured s (wanted s k) 8 k (start s k a)
      (λ p y f. let n : ◌≡◌ {A = ℕ} 0 1 = cc in absurd (omega arith)) same_found place z e in
      let f = h.field in
      record {
        inside = h.inside;
        shows = ap (shown_sizes place) (sym h.sized) ∙ shown_sizes_lem place f ∙ field_of_kth refused_field shown places k (reading s) a (some (place, f)) h.same;
      }

  pub field_absent : found_at (wanted s k) ≡ None → refused_field 18 0 ≡ field s k
  unfolding field_or_absent field
  field_absent e =
      field_of_kth refused_field shown places k (reading s) a none
      (kth_absent octets Outermost sizes total at None measured s (wanted s k) 8 k (start s k a)
      (λ p y f. let n : ◌≡◌ {A = ℕ} 0 1 = cc in absurd (omega arith)) e)
