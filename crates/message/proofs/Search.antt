-- A search for the first fault of a message, in step with the reading. It is no part of what the laws of FirstFault.antt say.
use Prim.Native.Nat.{ℕ, zero, suc, ◌+◌, ◌-◌, ◌≤◌, ◌<◌}
use native.Mathlib.Omega.{arith}
use mathlib.Core.Path.{◌≡◌, refl, sym, ap, ap₂, ◌∙◌, subst}
use mathlib.Core.Bool.{false}
use mathlib.Core.List.{List, [], ◌∷◌, ◌++◌}
use lib.ListN.{length, take, drop, length-append, length-drop, take-append-drop}
use lib.Seq.{length-take-le}
use Rattle.octets.specs.Number.{Octets}
use Rattle.octets.proofs.Number.{octets_before, octets_after, octets_part}
use Rattle.octets.proofs.ControlPart.{part_size}
use Rattle.table.specs.Schema.{Schema}
use Rattle.message.specs.Reading.{Step}
use Rattle.message.specs.Reading as steps
use Rattle.message.specs.Cut.{Cut, end, leaf, nested, joined, LeafField, NestedField, Good}
use Rattle.message.specs.Single.{repeats}
use Rattle.message.specs.FirstFault.{
  Wrong,
  ends_early,
  wrong_octets,
  IsWrong,
  Fault,
  here,
  over,
  past,
  inside,
  fault_octets,
  fault_refusal,
  fault_place,
  LeadsTo,
  FirstFault,
}
use Rattle.reading.specs.Reading.{Reading, accepted, refused, on_accepted, in_order}
use Rattle.message.specs.Reading.{step, tag_at, Inner, after_step, fields_from, message_from}
use Rattle.message.proofs.Steps.{StepMeans, step_means, Fresh, step_fresh, step_of_leaf, step_of_nested, field_tag, split_in_three, in_three}
use Rattle.message.proofs.Accepted.{accepted_good, good_accepted, depth_positive}
use Rattle.message.proofs.WrongFields.{wrong_at, step_blames, wrong_refused}

-- The result: a cut, or a fault.
pub data Search : Type 0 where
  whole : Cut → Search
  faulty : Fault → Search

unfoldable pub then_leaf : ℕ → List ℕ → List ℕ → Search → Search
then_leaf tag c b (whole cut) = whole (leaf tag c b cut)
then_leaf tag c b (faulty f) = faulty (over tag c b f)

unfoldable pub then_nested : ℕ → List ℕ → List ℕ → Search → Search → Search
then_nested tag c after (faulty f) later = faulty (inside tag c f after)
then_nested tag c after (whole i) (whole cut) = whole (nested tag c i cut)
then_nested tag c after (whole i) (faulty f) = faulty (past tag c i f)

-- How a nested message is searched: its number and its contents.
abbrev pub Within : Type 0
Within = ℕ → List ℕ → Search

unfoldable pub after_found : Within → (List ℕ → Search) → List ℕ → Step → Search
after_found inner next s steps.Done = whole end
after_found inner next s (steps.Fault k) = faulty (here (wrong_at s k))
after_found inner next s (steps.Over k l) = then_leaf (tag_at s) (take k s) (take l (drop k s)) (next (drop (k + l) s))
after_found inner next s (steps.Into m k l) =
    then_nested (tag_at s) (take k s) (drop (k + l) s) (inner m (take l (drop k s))) (next (drop (k + l) s))

unfoldable pub search_fields : Schema → ℕ → Within → ℕ → List ℕ → ℕ → List ℕ → Search
search_fields sc levels inner n before zero s = faulty (here (ends_early s))
search_fields sc levels inner n before (suc fuel) s =
    after_found inner (search_fields sc levels inner n (tag_at s ∷ before) fuel) s (step sc levels n before s)

-- A message that may be `levels` deep. No message is searched at 0 levels.
unfoldable pub search : Schema → ℕ → Within
search sc zero n s = faulty (here (ends_early s))
search sc (suc levels) n s = search_fields sc levels (search sc levels) n [] (suc (length s)) s

-- ---- the search has the same result as the reading, and the fault that it finds is the first one

-- A reading of octets at a place, after fields with the tags `before`, and a search through them.
unfoldable pub Agree : Schema → ℕ → ℕ → List ℕ → ℕ → List ℕ → Reading Cut → Search → Type 0
Agree sc levels n before at s r (whole cut) = r ≡ accepted cut
Agree sc levels n before at s r (faulty f) = (r ≡ refused (fault_refusal f) (at + fault_place f)) × (fault_octets f ≡ s) × LeadsTo sc levels n before f

module _ (sc : Schema) (levels n : ℕ) (before : List ℕ) (at : ℕ) (s c b rest : List ℕ) (tag : ℕ) (e : s ≡ c ++ b ++ rest)
    (fresh : repeats sc n before tag ≡ false) (r : Reading Cut) where
  -- One more field.
  leaf_agrees : LeafField sc n tag c b → (x : Search) → Agree sc levels n (tag ∷ before) (at + length c + length b) rest r x
      → Agree sc levels n before at s (on_accepted (leaf tag c b) r) (then_leaf tag c b x)
  unfolding Agree then_leaf on_accepted fault_refusal fault_place fault_octets LeadsTo
  leaf_agrees f (whole cut) h = rw h
  leaf_agrees f (faulty g) h = (
    rw h.0 (ap (refused (fault_refusal g)) (omega arith)),
    ap (λ (z : List ℕ). c ++ b ++ z) h.1 ∙ sym e,
    (f, h.2, fresh),
  )

  -- One more message.
  nested_agrees : (m lower : ℕ) → 1 < levels → levels - 1 ≡ lower → NestedField sc n m tag c b → (q : Reading Cut)
      → ((i : Cut) → q ≡ accepted i → Good sc lower m b i) → (y : Search) → Agree sc lower m [] (at + length c) b q y → (x : Search)
      → Agree sc levels n (tag ∷ before) (at + length c + length b) rest r x
      → Agree sc levels n before at s (in_order (nested tag c) q r) (then_nested tag c rest y x)
  unfolding Agree then_nested on_accepted in_order fault_refusal fault_place fault_octets LeadsTo
  nested_agrees m lower l w f q good (faulty g) h x k = (
    rw h.0 (ap (refused (fault_refusal g)) (omega arith)),
    ap (λ (z : List ℕ). c ++ z ++ rest) h.1 ∙ sym e,
    (l, (m, subst (λ (z : List ℕ). NestedField sc n m tag c z) (sym h.1) f, rw w h.2), fresh),
  )
  nested_agrees m lower l w f q good (whole i) h (whole cut) k = rw (h, k)
  nested_agrees m lower l w f q good (whole i) h (faulty g) k =
      let d = (good i h).divides in (
        rw (h, k.0, d) (ap (refused (fault_refusal g)) (omega arith)),
        ap₂ (λ (y z : List ℕ). c ++ y ++ z) d k.1 ∙ sym e,
        (
          (m, subst (λ (z : List ℕ). NestedField sc n m tag c z) (sym d) f, rw w (subst (λ (z : List ℕ). Good sc lower m z i) (sym d) (good i h))),
          k.2,
          fresh,
        ),
      )

-- Where nested messages agree and are accepted only with a good cut, all fields of a message agree.
module _ (sc : Schema) (levels : ℕ) (inner : Inner) (within : Within)
    (below : (m field at : ℕ) (b : List ℕ) → 1 ≤ levels → Octets b → Agree sc levels m [] at b (inner m field at b) (within m b))
    (good : (m field at : ℕ) (b : List ℕ) (cut : Cut) → inner m field at b ≡ accepted cut → Good sc levels m b cut) where
  -- After one step.
  after_agrees : (n : ℕ) (before : List ℕ) (next : ℕ → List ℕ → Reading Cut) (further : List ℕ → Search) (at : ℕ) (s : List ℕ) → Octets s
      → ((k l : ℕ) → 1 ≤ k → k + l ≤ length s
      → Agree sc (suc levels) n (tag_at s ∷ before) (at + k + l) (drop (k + l) s) (next (at + k + l) (drop (k + l) s)) (further (drop (k + l) s)))
      → (p : Step) → step sc levels n before s ≡ p → StepMeans sc n s p → Fresh sc levels n before s p
      → Agree sc (suc levels) n before at s (after_step inner next at s p) (after_found within further s p)
  unfolding after_step after_found StepMeans Fresh
  after_agrees n before next further at s o later steps.Done e h u = unfold Agree in refl
  after_agrees n before next further at s o later (steps.Fault k) e h u =
      let b = step_blames sc levels n before s o k e in
      unfold Agree fault_refusal fault_place fault_octets LeadsTo in
      (rw b.reason (ap (refused k) (omega arith)), b.is, b.wrong)
  after_agrees n before next further at s o later (steps.Over k l) e h u =
      let i = h.2 in
      let d = length-drop k s in
      let x = length-take-le k s (omega arith) in
      let y = length-take-le l (drop k s) (omega arith) in
      let t = drop (k + l) s in
      leaf_agrees sc (suc levels) n before at s (take k s) (take l (drop k s)) t (tag_at s) (sym (split_in_three k l s)) u (next (at + k + l) t) h.0 (further t)
      (rw (x, y) (later k l h.1 i))
  after_agrees n before next further at s o later (steps.Into m k l) e h u =
      let i = h.2 in
      let d = length-drop k s in
      let x = length-take-le k s (omega arith) in
      let y = length-take-le l (drop k s) (omega arith) in
      let c = take k s in
      let b = take l (drop k s) in
      let t = drop (k + l) s in
      let some = u.1 in
      let g = nested_agrees sc (suc levels) n before at s c b t (tag_at s) (sym (split_in_three k l s)) u.0 (next (at + k + l) t) m levels (omega arith)
      (omega arith) h.0 (inner m at (at + length c) b) (good m at (at + length c) b) (within m b)
      (below m at (at + length c) b some (octets_part l k s o)) (further t) (rw (x, y) (later k l h.1 i)) in
      rw x at g

  -- After all steps.
  fields_agree : (n : ℕ) (before : List ℕ) (fuel at : ℕ) (s : List ℕ) → Octets s → length s < fuel
      → Agree sc (suc levels) n before at s (fields_from sc levels inner n before fuel at s) (search_fields sc levels within n before fuel s)
  unfolding fields_from search_fields
  fields_agree n before zero at s o h = absurd (omega arith)
  fields_agree n before (suc fuel) at s o h =
      after_agrees n before (fields_from sc levels inner n (tag_at s ∷ before) fuel) (search_fields sc levels within n (tag_at s ∷ before) fuel) at s o
      (λ k l p q.
      let d = length-drop (k + l) s in
      fields_agree n (tag_at s ∷ before) fuel (at + k + l) (drop (k + l) s) (octets_after (take (k + l) s) (drop (k + l) s) (rw (take-append-drop (k + l) s) o))
      (omega arith))
      (step sc levels n before s) refl (step_means sc levels n before s) (step_fresh sc levels n before s)

-- A message that may be one deep or more is searched with the result of its reading.
pub search_agrees : (sc : Schema) (levels n field at : ℕ) (s : List ℕ) → 1 ≤ levels → Octets s
    → Agree sc levels n [] at s (message_from sc levels n field at s) (search sc levels n s)
unfolding message_from search
search_agrees sc zero n field at s h o = absurd (omega arith)
search_agrees sc (suc levels) n field at s h o =
    fields_agree sc levels (message_from sc levels) (search sc levels) (search_agrees sc levels) (accepted_good sc levels) n [] (suc (length s)) at s o (omega arith)

-- A message with a good cut is searched without finding a fault.
good_searched : (sc : Schema) (levels n : ℕ) (s : List ℕ) (cut : Cut) → 1 ≤ levels → Octets s → Good sc levels n s cut → search sc levels n s ≡ whole cut
unfolding Agree
good_searched sc levels n s cut l o g = go (search sc levels n s) (search_agrees sc levels n 0 0 s l o)
  where
    e : message_from sc levels n 0 0 s ≡ accepted cut
    e = good_accepted sc levels n 0 0 s cut g

    go : (x : Search) → Agree sc levels n [] 0 s (message_from sc levels n 0 0 s) x → x ≡ whole cut
    go (whole other) h = let a = e in let q : other ≡ cut = cc in ap whole q
    go (faulty f) h = let a = e in let k = h.0 in let z : ◌≡◌ {A = ℕ} 0 1 = cc in absurd (omega arith)

-- ---- the search finds the first fault

module _ (sc : Schema) where
  -- A fault at the first field.
  here_found : (levels : ℕ) (within : Within) (n : ℕ) (before : List ℕ) (fuel : ℕ) (w : Wrong) → IsWrong sc (suc levels) n before w
      → search_fields sc levels within n before (suc fuel) (wrong_octets w) ≡ faulty (here w)
  unfolding search_fields after_found
  here_found levels within n before fuel w h = let r = wrong_refused sc levels n before w h in rw (r.stepped, r.same)

  -- A fault at the end of a way.
  leads_found : (f : Fault) (levels n : ℕ) (before : List ℕ) (fuel : ℕ) → Octets (fault_octets f) → LeadsTo sc (suc levels) n before f
      → length (fault_octets f) < fuel → search_fields sc levels (search sc levels) n before fuel (fault_octets f) ≡ faulty f
  unfolding fault_octets LeadsTo search_fields after_found then_leaf then_nested search
  leads_found (here w) levels n before zero o h k = absurd (omega arith)
  leads_found (here w) levels n before (suc fuel) o h k = here_found levels (search sc levels) n before fuel w h
  leads_found (over tag c b later) levels n before zero o h k = absurd (omega arith)
  leads_found (over tag c b later) levels n before (suc fuel) o h k =
      let s = c ++ b ++ fault_octets later in
      let j = part_size tag (length b) c h.0.whole in
      let l : length s ≡ length c + length b + length (fault_octets later) = simp length-append (omega arith) in
      let r = leads_found later levels n (tag ∷ before) fuel (octets_after (c ++ b) (fault_octets later) o) h.1 (omega arith) in
      let p = in_three c b (fault_octets later) in
      rw (step_of_leaf sc levels n before tag c b (fault_octets later) h.0 h.2, field_tag tag c b (fault_octets later) h.0.whole, p.first, p.second, p.third, r)
  leads_found (past tag c cut later) levels n before zero o h k = absurd (omega arith)
  leads_found (past tag c cut later) levels n before (suc fuel) o h k =
      let d : suc levels - 1 ≡ levels = omega arith in
      let m = h.0.0 in
      let f = h.0.1 in
      let b = joined cut in
      let g = subst (λ (x : ℕ). Good sc x m b cut) d h.0.2 in
      let some : 1 ≤ levels = let i = g.shallow in let j = depth_positive cut in omega arith in
      let j = part_size tag (length b) c f.whole in
      let l : length (c ++ b ++ fault_octets later) ≡ length c + length b + length (fault_octets later) = simp length-append (omega arith) in
      let r = leads_found later levels n (tag ∷ before) fuel (octets_after (c ++ b) (fault_octets later) o) h.1 (omega arith) in
      let q = good_searched sc levels m b cut some (octets_after c b (octets_before (c ++ b) (fault_octets later) o)) g in
      let p = in_three c b (fault_octets later) in
      rw (step_of_nested sc levels n before m tag c b (fault_octets later) f some h.2, field_tag tag c b (fault_octets later) f.whole, p.first, p.second, p.third, q, r)
  leads_found (inside tag c inner after) levels n before zero o h k = absurd (omega arith)
  leads_found (inside tag c inner after) zero n before (suc fuel) o h k = let l = h.0 in absurd (omega arith)
  leads_found (inside tag c inner after) (suc levels) n before (suc fuel) o h k =
      let d : suc (suc levels) - 1 ≡ suc levels = omega arith in
      let m = h.1.0 in
      let f = h.1.1 in
      let b = fault_octets inner in
      let q = leads_found inner levels m [] (suc (length b)) (octets_after c b (octets_before (c ++ b) after o))
      (subst (λ (x : ℕ). LeadsTo sc x m [] inner) d h.1.2) (omega arith) in
      let p = in_three c b after in
      rw (step_of_nested sc (suc levels) n before m tag c b after f (omega arith) h.2, field_tag tag c b after f.whole, p.first, p.second, p.third, q)

-- The search of a message finds its first fault.
pub first_searched : (sc : Schema) (levels n : ℕ) (s : List ℕ) (f : Fault) → Octets s → FirstFault sc (suc levels) n s f → search sc (suc levels) n s ≡ faulty f
unfolding search
first_searched sc levels n s f o h =
    subst (λ (r : List ℕ). search_fields sc levels (search sc levels) n [] (suc (length r)) r ≡ faulty f) h.divides
    (leads_found sc f levels n [] (suc (length (fault_octets f))) (subst Octets (sym h.divides) o) h.leads (omega arith))
