-- The loop invariant of the traversal for its answer whether the message is in its shortest form.
use Prim.Native.Nat.{ℕ, suc, ◌+◌, ◌-◌, ◌≤◌, ◌<◌}
use native.Mathlib.Omega.{arith}
use mathlib.Core.Path.{◌≡◌, refl, sym, ap, ap₂, ◌∙◌, subst}
use mathlib.Core.Bool.{Bool, true, false, ◌&&◌, and-false, and_assoc}
use mathlib.Core.List.{List, [], ◌∷◌}
use lib.ListN.{length, take, drop, take-append-drop, length-drop}
use lib.Seq.{drop-drop, length-take-le}
use Rattle.octets.specs.Short.{short_part, short_control}
use Rattle.octets.specs.Control.{control}
use Rattle.octets.specs.declared.Control.TheVariants.{Whole}
use Rattle.octets.proofs.Bools.{true_second}
use Rattle.octets.proofs.ControlPart.{part_read}
use Rattle.octets.proofs.Short.{short_front}
use Rattle.table.specs.Entry.{inner_of}
use Rattle.table.specs.Schema.{Schema}
use Rattle.table_index.specs.internal.Cells.{cell_for, indexed, note_in}
use Rattle.table.specs.declared.Meaning.TheVariants.{Message}
use Rattle.reading.specs.Reading.{Reading, accepted, refused, on_accepted, in_order}
use Rattle.reading.specs.internal.Verdicts.{Verdict}
use Rattle.reading.specs.internal.Verdicts.{Accepted, Refused}
use Rattle.reading.specs.internal.Verdicts.{verdict_of}
use Rattle.message.specs.Cut.{Cut, leaf, nested, WholeField}
use Rattle.message.specs.Reading.{Inner, step, tag_at, after_step, fields_from}
use Rattle.message.specs.internal.Short.{short_contents, short_cut, short_reading}
use Rattle.message.specs.Reading as steps
use Rattle.message.proofs.Steps.{StepMeans, step_means}
use Rattle.message_field.specs.internal.Nexts.{next_of, short_from, short_field}
use Rattle.message_field.specs.internal.Nexts.{Next}
use Rattle.message_field.specs.internal.Nexts.{Done, Fault, Over, Into}
use Rattle.message_field.proofs.Nexts.{IntoFrom, NextFrom, came_from}
use Rattle.message_calls.specs.internal.Verdicts.{verdict}
use Rattle.message_calls.proofs.CheckLoop.{step_inside, step_inside_nested, found_nested, same_reading}

-- ---- one field

-- The control part that a step found.
whole_at : (s : List ℕ) (k l : ℕ) → WholeField (tag_at s) (take k s) (take l (drop k s)) → k + l ≤ length s → control s ≡ Whole (tag_at s) l k
whole_at s k l w h =
    let d = length-drop k s in
    let a = length-take-le k s (omega arith) in
    let b = length-take-le l (drop k s) (omega arith) in
    let p = part_read (tag_at s) (length (take l (drop k s))) (take k s) w (drop k s) in
    rw (take-append-drop k s, a, b) at p

module _ (sc : Schema) (levels n : ℕ) (before s : List ℕ) (k l : ℕ) where
  front_is : control s ≡ Whole (tag_at s) l k
      → short_field sc n s ≡ short_control (take k s) && short_contents (sc.means n (tag_at s)) (take l (drop k s))
  unfolding short_field short_from short_control
  front_is e =
      let f : short_control (take k s) ≡ short_part s (Whole (tag_at s) l k) = short_front s (tag_at s) l k e ∙ ap (short_part s) e in
      rw (e, ← f) refl

  leaf_short : step sc levels n before s ≡ steps.Over k l
      → short_field sc n s ≡ short_control (take k s) && short_contents (sc.means n (tag_at s)) (take l (drop k s))
  unfolding StepMeans
  leaf_short e = let h = subst (StepMeans sc n s) e (step_means sc levels n before s) in front_is (whole_at s k l h.0.whole h.2)

  nested_short : (m : ℕ) → step sc levels n before s ≡ steps.Into m k l
      → (short_field sc n s ≡ short_control (take k s)) × (sc.means n (tag_at s) ≡ Message m)
  unfolding StepMeans short_contents
  nested_short m e =
      let h = subst (StepMeans sc n s) e (step_means sc levels n before s) in
      let f = front_is (whole_at s k l h.0.whole h.2) in
      (rw h.0.allowed at f ∙ sym (true_second (short_control (take k s)) true refl), h.0.allowed)

-- ---- a field and those after it

module _ (sc : Schema) (n : ℕ) where
  short_over : (tag : ℕ) (c b : List ℕ) (r : Reading Cut)
      → short_reading sc n (on_accepted (leaf tag c b) r) ≡ (short_control c && short_contents (sc.means n tag) b) && short_reading sc n r
  unfolding short_reading short_cut on_accepted
  short_over tag c b (accepted cut) = refl
  short_over tag c b (refused reason place) = sym (and-false (short_control c && short_contents (sc.means n tag) b))

  -- A field that is a message of the number m, which was accepted.
  short_into : (m tag : ℕ) (c : List ℕ) (q r : Reading Cut) → sc.means n tag ≡ Message m → (f d : ℕ) → verdict q ≡ Accepted f d
      → short_reading sc n (in_order (nested tag c) q r) ≡ (short_control c && short_reading sc m q) && short_reading sc n r
  unfolding short_reading short_cut in_order on_accepted inner_of verdict_of
  short_into m tag c (accepted x) (accepted cut) e f d v = rw e refl
  short_into m tag c (accepted x) (refused reason place) e f d v = sym (and-false (short_control c && short_cut sc m x))
  short_into m tag c (refused k p) r e f d v = let z : ◌≡◌ {A = ℕ} 0 1 = cc in absurd (omega arith)

  short_refused : (h : Cut → Cut → Cut) (q r : Reading Cut) (k p : ℕ) → verdict q ≡ Refused k p → short_reading sc n (in_order h q r) ≡ false
  unfolding short_reading in_order verdict_of
  short_refused h (accepted x) r k p v = let z : ◌≡◌ {A = ℕ} 0 1 = cc in absurd (omega arith)
  short_refused h (refused reason place) r k p v = refl

-- A message that is refused is not short.
pub refused_short : (sc : Schema) (n : ℕ) (q : Reading Cut) (k p : ℕ) → verdict q ≡ Refused k p → short_reading sc n q ≡ false
unfolding short_reading verdict_of
refused_short sc n (accepted x) k p v = cc
refused_short sc n (refused reason place) k p v = refl

-- ---- the loop

module _ (cells : List ℕ) (levels : ℕ) (inner : Inner) (n at : ℕ) (s : List ℕ) where
  abbrev sc : Schema
  sc = indexed cells

  -- The reading of the fields after i octets and fields with the tags `before`.
  abbrev rest : List ℕ → ℕ → ℕ → Reading Cut
  rest before fuel i = fields_from sc levels inner n before fuel (at + i) (drop i s)

  abbrev pub whole_short : Bool
  whole_short = short_reading sc n (rest [] (suc (length s)) 0)

  -- After i octets, where t says whether the fields so far are in their shortest form, the fields after them decide.
  pub record ShortSoFar (before : List ℕ) (i : ℕ) (t : Bool) : Type 0 where
    fuel : ℕ
    enough : length s < i + fuel
    agrees : whole_short ≡ t && short_reading sc n (rest before fuel i)

  pub short_start : ShortSoFar [] 0 true
  short_start = record { fuel = suc (length s); enough = omega arith; agrees = refl }

  module _ (before : List ℕ) (mask i : ℕ) (t : Bool) (now : ShortSoFar before i t) (inside : i ≤ length s) where
    abbrev Here : Next
    Here = next_of cells levels n before mask s i

    -- There is still fuel, so the field after i octets is read.
    looked : whole_short ≡ t && short_reading sc n (rest before (suc (now.fuel - 1)) i)
    looked =
        let b = now.enough in
        let e : now.fuel ≡ suc (now.fuel - 1) = omega arith in
        now.agrees ∙ ap (λ (fuel : ℕ). t && short_reading sc n (rest before fuel i)) e

    pub short_at_end : Here ≡ Done → t ≡ whole_short
    unfolding NextFrom fields_from after_step short_reading short_cut
    short_at_end e = let h = came_from cells levels n before mask s i Done e in let f = rw h at looked in sym (f ∙ sym (true_second t true refl))

    pub short_at_fault : (k : ℕ) → Here ≡ Fault k → false ≡ whole_short
    unfolding NextFrom fields_from after_step short_reading
    short_at_fault k e = let h = came_from cells levels n before mask s i (Fault k) e in let f = rw h at looked in sym (f ∙ and-false t)

    -- The fields after one of `size` and `len` octets.
    abbrev after : ℕ → ℕ → Reading Cut
    after size len = fields_from sc levels inner n (tag_at (drop i s) ∷ before) (now.fuel - 1) (at + i + size + len) (drop (size + len) (drop i s))

    -- A field of `size` and `len` octets that adds x.
    stepped : (size len e : ℕ) (x : Bool) → e ≡ i + size + len → 1 ≤ size
        → short_reading sc n (rest before (suc (now.fuel - 1)) i) ≡ x && short_reading sc n (after size len)
        → ShortSoFar (tag_at (drop i s) ∷ before) e (t && x)
    stepped size len e x p h f =
        let b = now.enough in
        let q : at + i + size + len ≡ at + e = omega arith in
        let r : e ≡ i + (size + len) = omega arith in
        record {
          fuel = now.fuel - 1;
          enough = omega arith;
          agrees =
              looked
              ∙ ap (λ (y : Bool). t && y) f
              ∙ sym (and_assoc t x (short_reading sc n (after size len)))
              ∙ rw (q, r, drop-drop (size + len) i s) refl;
        }

    -- A field that is no message.
    pub short_leaf : (e : ℕ) (b : Bool) (p : ℕ) → Here ≡ Over e b p → ShortSoFar (tag_at (drop i s) ∷ before) e (t && b)
    unfolding NextFrom fields_from after_step
    short_leaf e b p h =
        let r = drop i s in
        let w = came_from cells levels n before mask s i (Over e b p) h in
        let f = w.short_is ∙ leaf_short sc levels n before r w.size w.len w.is in
        stepped w.size w.len e b w.end_is (step_inside sc levels n before r w.size w.len w.is).0
        (rw w.is
        (short_over sc n (tag_at r) (take w.size r) (take w.len (drop w.size r)) (after w.size w.len)
        ∙ ap (λ (x : Bool). x && short_reading sc n (after w.size w.len)) (sym f)))

    -- A field that is a message, by its number, the span of its contents, and the verdict on them.
    module _ (m a e : ℕ) (b : Bool) (p : ℕ) (h : Here ≡ Into m a e b p) (v : Verdict)
        (is : v ≡ verdict (inner m (at + i) (at + a) (take (e - a) (drop a s)))) where
      abbrev found : IntoFrom i m a e (short_field sc n (drop i s)) b (note_in mask (cell_for cells n (tag_at (drop i s)))) p (step sc levels n before (drop i s))
      found = found_nested cells levels n before mask s i m a e b p h

      abbrev nested_reading : Reading Cut
      nested_reading = inner m (at + i) (at + i + found.size) (take found.len (drop found.size (drop i s)))

      same : inner m (at + i) (at + a) (take (e - a) (drop a s)) ≡ nested_reading
      same = same_reading cells levels n before mask s i m a e b p h inner at

      -- x says whether the nested message is in its shortest form.
      pub short_nested : (x : Bool) → x ≡ short_reading sc m (inner m (at + i) (at + a) (take (e - a) (drop a s))) → (f d : ℕ) → v ≡ Accepted f d
          → ShortSoFar (tag_at (drop i s) ∷ before) e (t && (b && x))
      unfolding fields_from after_step
      short_nested x g f d u =
          let r = drop i s in
          let w = found in
          let k = nested_short sc levels n before r w.size w.len m w.is in
          let y = w.short_is ∙ k.0 in
          let z = g ∙ ap (short_reading sc m) same in
          stepped w.size w.len e (b && x) w.end_is (step_inside_nested sc levels n before r m w.size w.len w.is).0
          (rw w.is
          (short_into sc n m (tag_at r) (take w.size r) nested_reading (after w.size w.len) k.1 f d (ap verdict (sym same) ∙ sym is ∙ u)
          ∙ ap₂ (λ (p q : Bool). (p && q) && short_reading sc n (after w.size w.len)) (sym y) (sym z)))

      pub short_nested_refused : (reason place : ℕ) → v ≡ Refused reason place → false ≡ whole_short
      unfolding fields_from after_step
      short_nested_refused reason place u =
          let r = drop i s in
          let w = found in
          let f =
          short_refused sc n (nested (tag_at r) (take w.size r)) nested_reading (after w.size w.len) reason place (ap verdict (sym same) ∙ sym is ∙ u) in
          let g = rw w.is at looked in
          sym (g ∙ ap (λ (y : Bool). t && y) f ∙ and-false t)
