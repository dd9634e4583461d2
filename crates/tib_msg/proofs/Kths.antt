-- The traversal to the k-th field of a message that is accepted, and the answer for the field that it finds.
use Prim.Native.Nat.{ℕ, ◌+◌, ◌-◌, ◌≤◌, ◌<◌}
use native.Mathlib.Omega.{arith}
use mathlib.Core.Path.{◌≡◌, sym, ap, ap₂, ◌∙◌, subst}
use mathlib.Core.List.{List}
use mathlib.Core.Option.{Option, none, some}
use Rattle.std.specs.Prelude.{Some, None}
use lib.ListN.{length, take, drop, length-drop}
use Rattle.octets.proofs.Slices.{tail_part}
use Rattle.reading.specs.internal.Verdicts.{IsAccepted}
use Rattle.tib_field.specs.Kth.{field_or_absent}
use Rattle.tib_field.specs.internal.KthOf.{kth_of}
use Rattle.tib_field.specs.Refused.{refused_field}
use Rattle.tib_field.specs.declared.FieldAnswer.{FieldAnswer}
use Rattle.tib_field.proofs.Kths.{Going as Passing, Look, ends, stands, look, OneMore, none_at_end, one_here, kth_found, kth_absent}
use Rattle.tib_field.proofs.ReadingLaws.{field_of_kth}
use Rattle.tib_msg_field.specs.declared.Sizes.{Sizes}
use mathlib.Core.Bool.{false}
use Rattle.tib_msg_field.specs.Layout.{hinted, Parts, octets, Allowed, magic}
use Rattle.tib_msg_field.specs.FirstFault.{WrongField}
use Rattle.tib_field.specs.Steps.{Over}
use Rattle.tib_msg_field.specs.Reading.{next_field, total, parts_at, fields_from, reading}
use Rattle.tib_msg_field.specs.internal.Sizes.{sizes}
use Rattle.tib_msg.specs.CheckAndField.{shown, places, field}
use Rattle.tib_msg.specs.internal.Found.{at, found_at, HasField}
use Rattle.tib_msg_field.proofs.Hints.{hint_small, hint_missing}
use Rattle.tib_msg_field.proofs.Steps.{step_of_field, step_of_end, parts_of_field, length_octets}
use Rattle.tib_field.proofs.Messages.{accepted_tested}
use Rattle.tib_msg_field.proofs.Rows.{steps}

-- The field that is looked for.
abbrev wanted : List ℕ → ℕ → Option (ℕ × Parts)
wanted s k = kth_of places k (reading s)

-- The fields that remain begin at i, and the `remaining`-th of them is the one that the caller looks for.
abbrev pub Going : List ℕ → ℕ → ℕ → ℕ → Type 0
Going s k i remaining = Passing octets Allowed s (wanted s k) i remaining

pub start : (s : List ℕ) (k : ℕ) → IsAccepted (reading s) → Going s k 9 k
unfolding IsAccepted kth_of places reading
start s k a =
    let t = accepted_tested magic octets Allowed WrongField fields_from steps s a.0 a.1 in
    record { rest = a.0; fields = t.fields; inside = t.header; same = rw a.1 }

pub measured : (f : Parts) → (1 ≤ total (sizes f)) × (length (octets f) ≡ total (sizes f))
unfolding total
measured f = (omega arith, length_octets f)

same_found : (p q : ℕ) (x y : Sizes) → at p x ≡ at q y → (p ≡ q) × (x ≡ y)
same_found p q x y e =
    let h : ◌≡◌ {A = ℕ × Sizes} (p, x) (q, y) = cc in
    (ap (λ (t : ℕ × Sizes). t.0) h, ap (λ (t : ℕ × Sizes). t.1) h)

module _ (s : List ℕ) (k i remaining : ℕ) (now : Going s k i remaining) where
  -- Before the end of the octets a field stands,
  pub field_here : i < length s → HasField (take (length s - i) (drop i s))
  field_here h = go (look octets Allowed s (wanted s k) i remaining now)
    where
      go : Look octets Allowed s (wanted s k) i remaining → HasField (take (length s - i) (drop i s))
      go (ends d w) = let l = ap length d in let m = length-drop i s in absurd (omega arith)
      go (stands f rest a d fits this later) = (sizes f, ap next_field (tail_part s i ∙ d) ∙ step_of_field f rest a)

  -- and none stands at their end.
  pub ended : length s ≤ i → None ≡ found_at (wanted s k)
  ended h = none_at_end octets Allowed sizes total at None measured s (wanted s k) i remaining now h

  pub one_more : (z : Sizes) → next_field (take (length s - i) (drop i s)) ≡ Over z → OneMore octets Allowed sizes total at None measured s (wanted s k) i remaining now z
  one_more z g =
      let e = ap next_field (sym (tail_part s i)) ∙ g in
      one_here octets Allowed sizes total at None measured s (wanted s k) i remaining now z
      (λ d. let n = ap next_field d ∙ step_of_end in let y : ◌≡◌ {A = ℕ} 0 1 = cc in absurd (omega arith))
      (λ f rest a d. let n = ap next_field d ∙ step_of_field f rest a in cc)

-- What the answer for a field that was found rests on.
pub record KthFound (s : List ℕ) (place : ℕ) (z : Sizes) (answer : FieldAnswer) : Type 0 where
  pub inside : place + total z ≤ length s
  pub small : z.hint ≤ 10
  pub unhinted : hinted z.octet ≡ false → z.hint ≡ 0
  pub shows : shown place (parts_at (drop place s) z) ≡ answer

module _ (s : List ℕ) (k : ℕ) (a : IsAccepted (reading s)) where
  pub field_found : (place : ℕ) (z : Sizes) → found_at (wanted s k) ≡ Some (place, z) → KthFound s place z (field s k)
  unfolding sizes field_or_absent field
  field_found place z e =
      let h = kth_found octets Allowed sizes total at None measured s (wanted s k) 9 k (start s k a)
      (λ p y f. let n : ◌≡◌ {A = ℕ} 0 1 = cc in absurd (omega arith)) same_found place z e in
      let f = h.field in
      record {
        inside = h.inside;
        small = subst (λ (y : Sizes). y.hint ≤ 10) h.sized (hint_small _ _ _ f.hint h.stands_there.good.hint);
        unhinted = subst (λ (y : Sizes). hinted y.octet ≡ false → y.hint ≡ 0) h.sized (λ e. hint_missing _ _ _ _ h.stands_there.good.hint e);
        shows =
            ap₂ (λ (r : List ℕ) (y : Sizes). shown place (parts_at r y)) h.stands_there.divides (sym h.sized)
            ∙ ap (shown place) (parts_of_field f h.stands_there.rest)
            ∙ field_of_kth refused_field shown places k (reading s) a (some (place, f)) h.same;
      }

  pub field_absent : found_at (wanted s k) ≡ None → refused_field 18 0 ≡ field s k
  unfolding field_or_absent field
  field_absent e =
      field_of_kth refused_field shown places k (reading s) a none
      (kth_absent octets Allowed sizes total at None measured s (wanted s k) 9 k (start s k a)
      (λ p y f. let n : ◌≡◌ {A = ℕ} 0 1 = cc in absurd (omega arith)) e)
