-- The head of a field: what it is once the control part at an offset is known, and what it says of the octets there.
use Prim.Native.Nat.{ℕ, ◌+◌, ◌-◌, ◌≤◌, ◌<◌, min}
use native.Mathlib.Omega.{arith}
use mathlib.Core.Path.{◌≡◌, refl, sym, ap, ◌∙◌}
use mathlib.Core.Bool.{Bool, true, false, cond}
use mathlib.Core.List.{List, []}
use lib.ListN.{length, take, drop, length-take, length-drop, drop_of_length-le}
use lib.Seq.{take_all, take-add, drop_at, length-take-le}
use lib.Dec.{leb}
use borrow.Author.Tests.{leb-true, leb-false, le-leb, lt-leb}
use Rattle.octets.specs.Control.{control}
use Rattle.octets.specs.declared.Control.{Control}
use Rattle.octets.specs.declared.Control.TheVariants.{Absent, Partial, Whole}
use Rattle.octets.proofs.ControlPart.{control_nil, control_size}
use Rattle.std.specs.Prelude.{Result, Ok, Err, Option, Some, None}
use Rattle.std.specs.Result.{result_unwrap_or}
use Rattle.reading.specs.declared.Refusal.{Refusal}
use Rattle.message_field.specs.declared.Head as code
use Rattle.message_field.specs.internal.Heads.{Head, head_of, head_from, head_at, Fieldless}
use Rattle.message_field.specs.internal.Heads.{End, Fault, Field}

-- ---- the octets of a message from an offset on, as the code takes them

clamped : (end : ℕ) (s : List ℕ) → take (min end (length s)) s ≡ take end s
clamped end s = go (leb end (length s)) refl
  where
    go : (b : Bool) → leb end (length s) ≡ b → take (min end (length s)) s ≡ take end s
    go true h = let k = leb-true end (length s) h in let q : min end (length s) ≡ end = omega arith in rw q
    go false h =
        let k = leb-false end (length s) h in
        take_all (min end (length s)) s (omega arith) ∙ sym (take_all end s (omega arith))

module _ (s : List ℕ) (i end stop : ℕ) (e : stop ≡ min end (length s)) where
  pub span_is : i ≤ stop → take (stop - i) (drop i s) ≡ drop i (take end s)
  span_is h =
      let q : i + (stop - i) ≡ stop = omega arith in
      sym (ap (drop i) (sym (clamped end s) ∙ ap (λ (n : ℕ). take n s) (sym (q ∙ e)) ∙ take-add i (stop - i) s)
      ∙ drop_at (take i s) (take (stop - i) (drop i s)) i (length-take-le i s (omega arith)))

  pub span_none : stop ≤ i → drop i (take end s) ≡ []
  span_none h = let l = length-take end s in drop_of_length-le (take end s) {i = i} (omega arith)

  pub span_length : i ≤ stop → length (drop i (take end s)) ≡ stop - i
  span_length h = simp (length-drop, length-take) (omega arith)

-- ---- the head by the control part

module _ (i : ℕ) (s : List ℕ) where
  pub head_absent : control s ≡ Absent → End ≡ head_at i s
  unfolding head_at head_from
  head_absent e = rw e

  pub head_none : s ≡ [] → End ≡ head_at i s
  head_none e = head_absent (ap control e ∙ control_nil)

  pub head_partial : control s ≡ Partial → Fault 3 ≡ head_at i s
  unfolding head_at head_from
  head_partial e = rw e

  module _ (tag len size : ℕ) (e : control s ≡ Whole tag len size) where
    pub head_past : length s - size < len → Fault 4 ≡ head_at i s
    unfolding head_at head_from
    head_past h = rw (e, lt-leb len (length s - size) h)

    pub head_field : len ≤ length s - size → Field tag (i + size) (i + size + len) ≡ head_at i s
    unfolding head_at head_from
    head_field h = rw (e, le-leb len (length s - size) h)

-- ---- the control part by the head

-- The control part behind a head: s has the octets from the offset i on, and the head has a tag and a span.
pub record HeadSpan (i : ℕ) (s : List ℕ) (tag start end : ℕ) : Type 0 where
  pub len : ℕ
  pub size : ℕ
  pub control_part : control s ≡ Whole tag len size
  pub start_is : start ≡ i + size
  pub end_is : end ≡ start + len
  pub positive : 1 ≤ size
  pub inside : size + len ≤ length s

module _ (i : ℕ) (s : List ℕ) (tag start end : ℕ) where
  whole_head_span : (t len size : ℕ) → control s ≡ Whole t len size → (b : Bool) → leb len (length s - size) ≡ b
      → cond b (Field t (i + size) (i + size + len)) (Fault 4) ≡ Field tag start end → HeadSpan i s tag start end
  whole_head_span t len size c true h f =
      let p = control_size s t len size c in
      let a = p.0 in
      let b = p.1 in
      let k = leb-true len (length s - size) h in
      let x : t ≡ tag = cc in
      let y : i + size ≡ start = cc in
      let z : i + size + len ≡ end = cc in
      record { len = len; size = size; control_part = rw (← x) c; start_is = sym y; end_is = omega arith; positive = a; inside = omega arith }
  whole_head_span t len size c false h f = let z : ◌≡◌ {A = ℕ} 0 1 = cc in absurd (omega arith)

  pub head_span : head_at i s ≡ Field tag start end → HeadSpan i s tag start end
  unfolding head_at head_from
  head_span e = go (control s) refl e
    where
      go : (c : Control) → control s ≡ c → head_from i s c ≡ Field tag start end → HeadSpan i s tag start end
      go Absent c f = let z : ◌≡◌ {A = ℕ} 0 1 = cc in absurd (omega arith)
      go Partial c f = let z : ◌≡◌ {A = ℕ} 0 1 = cc in absurd (omega arith)
      go (Whole t len size) c f = whole_head_span t len size c (leb len (length s - size)) refl f

-- ---- no field

-- A head that equals no field.
pub fieldless : (h : Head) → ((tag start end : ℕ) → h ≡ Field tag start end → ⊥) → Fieldless h
unfolding Fieldless
fieldless End o = tt
fieldless (Fault k) o = tt
fieldless (Field tag start end) o = absurd (o tag start end refl)

-- ---- what `head_at` returns where the caller does not ask why there is no field

module _ (r : Result (Option code.Head) Refusal) where
  pub found_field : (h : code.Head) → Some h ≡ result_unwrap_or r None → head_of r ≡ Field h.tag h.start h.end
  found_field h e = go r e
    where
      go : (r : Result (Option code.Head) Refusal) → Some h ≡ result_unwrap_or r None → head_of r ≡ Field h.tag h.start h.end
      go (Ok None) e = let z : ◌≡◌ {A = ℕ} 0 1 = cc in absurd (omega arith)
      go (Ok (Some x)) e = let p : x ≡ h = cc in rw p refl
      go (Err k) e = let z : ◌≡◌ {A = ℕ} 0 1 = cc in absurd (omega arith)

  pub found_none : None ≡ result_unwrap_or r None → Fieldless (head_of r)
  unfolding Fieldless
  found_none e = go r e
    where
      go : (r : Result (Option code.Head) Refusal) → None ≡ result_unwrap_or r None → Fieldless (head_of r)
      go (Ok None) e = tt
      go (Ok (Some x)) e = let z : ◌≡◌ {A = ℕ} 0 1 = cc in absurd (omega arith)
      go (Err k) e = tt
