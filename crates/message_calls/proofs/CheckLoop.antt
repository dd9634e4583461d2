-- The loop invariant of the traversal of one message's fields, and what each turn of the loop does to it.
use Prim.Native.Nat.{ℕ, zero, suc, ◌+◌, ◌-◌, ◌≤◌, ◌<◌, max}
use native.Mathlib.Nat.{add-zero}
use native.Mathlib.Omega.{arith}
use mathlib.Core.Path.{◌≡◌, refl, sym, ap, ◌∙◌, subst}
use mathlib.Core.Bool.{Bool}
use mathlib.Core.List.{List, [], ◌∷◌}
use lib.ListN.{length, take, drop, length-append, length-drop}
use lib.Seq.{drop-drop, length-take-le}
use Rattle.table.specs.Schema.{Schema}
use Rattle.table_index.specs.internal.Cells.{cell_for, indexed, note_in}
use Rattle.message.specs.Cut.{Cut, end, leaf, nested, depth, joined, Allowed}
use Rattle.message.specs.Reading.{Step}
use Rattle.message.specs.Reading as steps
use Rattle.reading.specs.Reading.{Reading, accepted, refused}
use Rattle.message.specs.Reading.{Inner, step, tag_at, after_step, fields_from, message_from}
use Rattle.message.proofs.Steps.{StepMeans, step_means, Fresh, step_fresh}
use Rattle.octets.proofs.ControlPart.{part_size}
use Rattle.message_field.specs.internal.Nexts.{next_of, short_field}
use Rattle.message_field.specs.internal.Nexts.{Next}
use Rattle.message_field.specs.internal.Nexts.{Done, Fault, Over, Into}
use Rattle.message_field.proofs.Nexts.{OverFrom, IntoFrom, NextFrom, came_from}
use Rattle.message.proofs.Accepted.{accepted_good, depth_positive}
use Rattle.message_calls.specs.internal.Verdicts.{fields, verdict}
use Rattle.reading.specs.internal.Verdicts.{Verdict}
use Rattle.reading.specs.internal.Verdicts.{Accepted, Refused}
use Rattle.reading.specs.internal.Verdicts.{verdict_of}
use Rattle.reading.proofs.Traversal as traversal
use Rattle.reading.proofs.Traversal.{Traversal}

-- The sizes that a step names lie within the octets. It enters a message only where one may be nested.
module _ (sc : Schema) (levels n : ℕ) (before s : List ℕ) where
  pub step_inside : (k l : ℕ) → step sc levels n before s ≡ steps.Over k l → (1 ≤ k) × (k + l ≤ length s)
  unfolding StepMeans
  step_inside k l e = let h = subst (StepMeans sc n s) e (step_means sc levels n before s) in (h.1, h.2)

  pub step_inside_nested : (m k l : ℕ) → step sc levels n before s ≡ steps.Into m k l → (1 ≤ k) × (k + l ≤ length s)
  unfolding StepMeans
  step_inside_nested m k l e = let h = subst (StepMeans sc n s) e (step_means sc levels n before s) in (h.1, h.2)

  pub step_nested : (m k l : ℕ) → step sc levels n before s ≡ steps.Into m k l → 1 ≤ levels
  unfolding Fresh
  step_nested m k l e = (subst (Fresh sc levels n before s) e (step_fresh sc levels n before s)).1

-- What the code finds after i octets: its context is an index, how many messages may be nested, a message number, the tags of the fields before and
-- the mask that notes the single ones of them.
module _ (cells : List ℕ) (levels n : ℕ) (before : List ℕ) (mask : ℕ) (s : List ℕ) (i : ℕ) where
  abbrev pub here : Next
  here = next_of cells levels n before mask s i

  abbrev pub stepped : Step
  stepped = step (indexed cells) levels n before (drop i s)

  abbrev pub short_here : Bool
  short_here = short_field (indexed cells) n (drop i s)

  -- The tag of the field there, and the mask after it.
  abbrev pub tag_here : ℕ
  tag_here = tag_at (drop i s)

  abbrev pub noted_here : ℕ
  noted_here = note_in mask (cell_for cells n tag_here)

  pub found_leaf : (e : ℕ) (b : Bool) (p : ℕ) → here ≡ Over e b p → OverFrom i e short_here b noted_here p stepped
  unfolding NextFrom
  found_leaf e b p h = came_from cells levels n before mask s i (Over e b p) h

  -- A field that is a message, by its number and the span of its contents.
  module _ (m a e : ℕ) (b : Bool) (p : ℕ) (h : here ≡ Into m a e b p) where
    pub found_nested : IntoFrom i m a e short_here b noted_here p stepped
    unfolding NextFrom
    found_nested = came_from cells levels n before mask s i (Into m a e b p) h

    pub may_nest : 1 ≤ levels
    may_nest = step_nested (indexed cells) levels n before (drop i s) m found_nested.size found_nested.len found_nested.is

    -- Its reading by the span and by the sizes that the step names.
    pub same_reading : (inner : Inner) (at : ℕ)
        → inner m (at + i) (at + a) (take (e - a) (drop a s))
        ≡ inner m (at + i) (at + i + found_nested.size) (take found_nested.len (drop found_nested.size (drop i s)))
    same_reading inner at =
        let w = found_nested in
        let p = w.start_is in
        let q = w.end_is in
        let x : at + i + w.size ≡ at + a = omega arith in
        let y : e - a ≡ w.len = omega arith in
        rw (x, y, drop-drop w.size i s, ← p) refl

module _ (cells : List ℕ) (levels : ℕ) (inner : Inner) (n at : ℕ) (s : List ℕ) where
  -- The reading of the fields, by the tags of those before.
  abbrev pub from : List ℕ → ℕ → ℕ → List ℕ → Reading Cut
  from before = fields_from (indexed cells) levels inner n before

  abbrev pub whole : Verdict
  whole = traversal.whole fields depth from [] at 0 s

  -- After i octets and fields with the tags `before`, with f fields so far of depth d.
  abbrev pub State : List ℕ → ℕ → ℕ → ℕ → Type 0
  State = Traversal fields depth from [] at 0 s

  pub start : State [] 0 0 1
  start = traversal.start fields depth from [] at 0 s depth_positive (omega arith)

  module _ (before : List ℕ) (mask i f d : ℕ) (now : State before i f d) where
    abbrev Here : Next
    Here = here cells levels n before mask s i

    pub at_end : Here ≡ Done → Accepted f d ≡ whole
    unfolding fields_from after_step fields depth NextFrom
    at_end e =
        let h = came_from cells levels n before mask s i Done e in
        traversal.at_end fields depth from [] at 0 s before i f d now end refl refl (rw h)

    pub at_fault : (k : ℕ) → Here ≡ Fault k → Refused k (at + i) ≡ whole
    unfolding fields_from after_step NextFrom
    at_fault k e =
        let h = came_from cells levels n before mask s i (Fault k) e in
        traversal.at_fault fields depth from [] at 0 s before i f d now k (at + i) (rw h)

    -- A field that is no message, by its end.
    module _ (e : ℕ) (b : Bool) (p : ℕ) (h : Here ≡ Over e b p) where
      abbrev leaf_found : OverFrom i e (short_here cells levels n before mask s i) b (noted_here cells levels n before mask s i) p (stepped cells levels n before mask s i)
      leaf_found = found_leaf cells levels n before mask s i e b p h

      leaf_inside : (1 ≤ leaf_found.size) × (leaf_found.size + leaf_found.len ≤ length (drop i s))
      leaf_inside = step_inside (indexed cells) levels n before (drop i s) leaf_found.size leaf_found.len leaf_found.is

      -- It ends within the octets, and beyond its start.
      pub leaf_ends : (i < e) × (e ≤ length s)
      leaf_ends =
          let w = leaf_found in
          let p = leaf_inside.0 in
          let q = w.end_is in
          traversal.forward fields depth from [] at 0 s before i f d now (w.size + w.len) e (omega arith) leaf_inside.1 (omega arith)

      pub over_leaf : State (tag_at (drop i s) ∷ before) e (f + 1) d
      unfolding fields_from after_step fields depth
      over_leaf =
          let w = leaf_found in
          let p = leaf_inside.0 in
          let q = w.end_is in
          traversal.over fields depth from [] at 0 s before i f d now (w.size + w.len) e (omega arith) leaf_inside.1 (omega arith) (tag_at (drop i s) ∷ before)
          (at + i + w.size + w.len) (omega arith) (leaf (tag_at (drop i s)) (take w.size (drop i s)) (take w.len (drop w.size (drop i s))))
          (λ x. refl) (λ x. refl) (rw w.is)

    -- A field that is a message, by its number and the span of its contents.
    module _ (m a e : ℕ) (b : Bool) (p : ℕ) (h : Here ≡ Into m a e b p) where
      abbrev found : IntoFrom i m a e (short_here cells levels n before mask s i) b (noted_here cells levels n before mask s i) p (stepped cells levels n before mask s i)
      found = found_nested cells levels n before mask s i m a e b p h

      nested_inside : (1 ≤ found.size) × (found.size + found.len ≤ length (drop i s))
      nested_inside = step_inside_nested (indexed cells) levels n before (drop i s) m found.size found.len found.is

      pub nested_ends : (i < a) × (a ≤ e) × (e ≤ length s)
      nested_ends =
          let w = found in
          let p = nested_inside.0 in
          let q = w.end_is in
          let b = w.start_is in
          let x = traversal.forward fields depth from [] at 0 s before i f d now (w.size + w.len) e (omega arith) nested_inside.1 (omega arith) in
          (omega arith, omega arith, x.1)

      -- The verdict that the code returns for the contents.
      module _ (r : Verdict) (v : r ≡ verdict (inner m (at + i) (at + a) (take (e - a) (drop a s)))) where
        abbrev nested_reading : Reading Cut
        nested_reading = inner m (at + i) (at + i + found.size) (take found.len (drop found.size (drop i s)))

        nested_octets : r ≡ verdict nested_reading
        nested_octets = v ∙ ap verdict (same_reading cells levels n before mask s i m a e b p h inner at)

        pub nested_turn : (g x c : ℕ) → r ≡ Accepted g x → g ≤ e - a → c ≡ max d (x + 1) → State (tag_at (drop i s) ∷ before) e (f + (1 + g)) c
        unfolding fields_from after_step fields depth
        nested_turn g x c u b k =
            let w = found in
            let p = nested_inside.0 in
            let y = w.start_is in
            let q = w.end_is in
            traversal.into fields depth from [] at 0 s before i f d now (w.size + w.len) e (omega arith) nested_inside.1 (omega arith) (tag_at (drop i s) ∷ before)
            (at + i + w.size + w.len) (omega arith) (nested (tag_at (drop i s)) (take w.size (drop i s))) (λ x y. refl) (λ x y. refl) nested_reading r g x c
            (rw w.is) nested_octets u (omega arith) k

        pub nested_refusal : (reason place : ℕ) → r ≡ Refused reason place → Refused reason place ≡ whole
        unfolding fields_from after_step
        nested_refusal reason place u =
            let w = found in
            traversal.at_nested_fault fields depth from [] at 0 s before i f d now (nested (tag_at (drop i s)) (take w.size (drop i s))) nested_reading
            (from (tag_at (drop i s) ∷ before) (now.fuel - 1) (at + i + w.size + w.len) (drop (w.size + w.len) (drop i s))) r reason place (rw w.is) nested_octets u

-- A message has no more fields than octets.
fields_few : (sc : Schema) (cut : Cut) (n : ℕ) → Allowed sc n cut → fields cut ≤ length (joined cut)
unfolding fields joined Allowed
fields_few sc end n a = omega arith
fields_few sc (leaf tag c b rest) n a =
    let k = part_size tag (length b) c a.0.whole in
    let h = fields_few sc rest n a.1 in
    simp length-append (omega arith)
fields_few sc (nested tag c inside rest) n a =
    let k = part_size tag (length (joined inside)) c a.0.1.whole in
    let p = fields_few sc inside a.0.0 a.0.2 in
    let q = fields_few sc rest n a.1 in
    simp length-append (omega arith)

-- The counts of an accepted message are small.
pub counts_small : (sc : Schema) (levels n field at : ℕ) (s : List ℕ) (f d : ℕ) → verdict (message_from sc levels n field at s) ≡ Accepted f d
    → (f ≤ length s) × (d ≤ levels)
unfolding verdict_of
counts_small sc levels n field at s f d e = go (message_from sc levels n field at s) refl e
  where
    go : (r : Reading Cut) → message_from sc levels n field at s ≡ r → verdict r ≡ Accepted f d → (f ≤ length s) × (d ≤ levels)
    go (accepted cut) h w =
        let g = accepted_good sc levels n field at s cut h in
        let p : fields cut ≡ f = cc in
        let q : depth cut ≡ d = cc in
        let k = fields_few sc cut n g.allowed in
        let l = ap length g.divides in
        let m = g.shallow in
        (omega arith, omega arith)
    go (refused reason place) h w = let z : ◌≡◌ {A = ℕ} 0 1 = cc in absurd (omega arith)

-- A message that may be one deep or more is the fields of one message. The place of its field is used only where it is too deep.
pub open_reading : (sc : Schema) (levels n field at : ℕ) (s : List ℕ) → 1 ≤ levels
    → fields_from sc (levels - 1) (message_from sc (levels - 1)) n [] (suc (length s)) (at + 0) (drop 0 s) ≡ message_from sc levels n field at s
unfolding message_from
open_reading sc zero n field at s h = absurd (omega arith)
open_reading sc (suc levels) n field at s h = let k : suc levels - 1 ≡ levels = omega arith in rw (k, add-zero at) refl

pub any_field_lem : (sc : Schema) (levels n field other at : ℕ) (s : List ℕ) → 1 ≤ levels → message_from sc levels n field at s ≡ message_from sc levels n other at s
any_field_lem sc levels n field other at s h = sym (open_reading sc levels n field at s h) ∙ open_reading sc levels n other at s h

-- A nested message's counts are small against its contents and the levels.
pub nested_small : (sc : Schema) (levels n field at a e : ℕ) (s : List ℕ) (f d : ℕ) (r : Verdict) → a ≤ e → e ≤ length s
    → r ≡ verdict (message_from sc levels n field at (take (e - a) (drop a s))) → r ≡ Accepted f d → (f ≤ e - a) × (d ≤ levels)
nested_small sc levels n field at a e s f d r p h w x =
    let b = take (e - a) (drop a s) in
    let c = counts_small sc levels n field at b f d (sym w ∙ x) in
    let q = c.0 in
    let m : length b ≡ e - a = length-take-le (e - a) (drop a s) (simp length-drop (omega arith)) in
    (omega arith, c.1)
