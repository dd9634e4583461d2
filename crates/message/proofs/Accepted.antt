-- A message is accepted by the reading exactly when it has a good cut, and it has at most one.
use Prim.Native.Nat.{ℕ, zero, suc, ◌+◌, ◌-◌, ◌≤◌, ◌<◌}
use native.Mathlib.Omega.{arith}
use mathlib.Core.Path.{◌≡◌, refl, sym, ap, ap₂, ◌∙◌, subst}
use mathlib.Core.Bool.{false}
use mathlib.Core.List.{List, [], ◌∷◌, ◌++◌}
use mathlib.Core.Logic.{◌↔◌}
use lib.ListN.{length, take, drop, length-append}
use Rattle.octets.proofs.ControlPart.{part_size}
use Rattle.table.specs.Schema.{Schema}
use Rattle.message.specs.Reading.{Step}
use Rattle.message.specs.Reading.{Done, Fault, Over, Into}
use Rattle.message.specs.Cut.{Cut, end, leaf, nested, joined, depth, LeafField, NestedField, tags, Allowed, Good}
use Rattle.message.specs.Single.{repeats}
use Rattle.reading.specs.Reading.{Reading, accepted, refused, on_accepted, in_order, depth_limit}
use Rattle.reading.specs.internal.Verdicts.{IsAccepted}
use Rattle.message.specs.Reading.{step, tag_at, Inner, after_step, fields_from, message_from, reading}
use Rattle.message.specs.internal.Accepts.{Accepts}
use Rattle.message.proofs.Singles.{Clear, clear_none, clear_more, clear_less}
use Rattle.message.proofs.Steps.{StepMeans, step_means, Fresh, step_fresh, step_of_leaf, step_of_nested, step_of_end, field_tag, split_in_three, in_three}

-- A good cut of octets that follow fields with the tags `before`: none of its fields repeats one of them.
record GoodAfter (sc : Schema) (levels n : ℕ) (before s : List ℕ) (cut : Cut) : Type 0 where
  good : Good sc levels n s cut
  clear : Clear sc n before (tags cut)

module _ (sc : Schema) (levels n : ℕ) (before s : List ℕ) where
  -- The end of the octets has the cut without fields.
  good_end : s ≡ [] → GoodAfter sc (suc levels) n before s end
  unfolding joined Allowed depth tags Clear
  good_end e = record { good = record { divides = sym e; allowed = tt; shallow = omega arith }; clear = tt }

  module _ (tag : ℕ) (c b rest : List ℕ) (cut : Cut) (e : s ≡ c ++ b ++ rest) (fresh : repeats sc n before tag ≡ false)
      (g : GoodAfter sc (suc levels) n (tag ∷ before) rest cut) where
    -- The field repeats none after it, and none of these repeats one before.
    once : Clear sc n before (tags cut) × (repeats sc n (tags cut) tag ≡ false)
    once = clear_less sc n before (tags cut) tag g.clear

    -- One more field before a good cut.
    good_leaf : LeafField sc n tag c b → GoodAfter sc (suc levels) n before s (leaf tag c b cut)
    unfolding joined Allowed depth tags Clear
    good_leaf f =
        record {
          good =
              record {
                divides = ap (λ (r : List ℕ). c ++ b ++ r) g.good.divides ∙ sym e;
                allowed = (f, g.good.allowed, once.1);
                shallow = g.good.shallow;
              };
          clear = (fresh, once.0);
        }

    -- One more message before a good cut.
    good_nested : (m : ℕ) (inside : Cut) → NestedField sc n m tag c b → Good sc levels m b inside
        → GoodAfter sc (suc levels) n before s (nested tag c inside cut)
    unfolding joined Allowed depth tags Clear
    good_nested m inside f i =
        let p = i.shallow in
        let q = g.good.shallow in
        record {
          good =
              record {
                divides = ap₂ (λ (x y : List ℕ). c ++ x ++ y) i.divides g.good.divides ∙ sym e;
                allowed = ((m, subst (λ (x : List ℕ). NestedField sc n m tag c x) (sym i.divides) f, i.allowed), g.good.allowed, once.1);
                shallow = omega arith;
              };
          clear = (fresh, once.0);
        }

-- Where nested messages are accepted only with a good cut, so are the fields of a message.
module _ (sc : Schema) (levels : ℕ) (inner : Inner)
    (below : (m field at : ℕ) (b : List ℕ) (cut : Cut) → inner m field at b ≡ accepted cut → Good sc levels m b cut) where
  -- After one step.
  after_good : (n : ℕ) (before : List ℕ) (next : ℕ → List ℕ → Reading Cut) (at : ℕ) (s : List ℕ)
      → ((at : ℕ) (r : List ℕ) (cut : Cut) → next at r ≡ accepted cut → GoodAfter sc (suc levels) n (tag_at s ∷ before) r cut)
      → (cut : Cut) (p : Step) → StepMeans sc n s p → Fresh sc levels n before s p → after_step inner next at s p ≡ accepted cut
      → GoodAfter sc (suc levels) n before s cut
  unfolding after_step StepMeans Fresh on_accepted in_order
  after_good n before next at s later cut Done h f e = subst (GoodAfter sc (suc levels) n before s) (cc) (good_end sc levels n before s h)
  after_good n before next at s later cut (Fault reason) h f e = let z : ◌≡◌ {A = ℕ} 0 1 = cc in absurd (omega arith)
  after_good n before next at s later cut (Over k l) h f e = go (next (at + k + l) (drop (k + l) s)) refl e
    where
      go : (r : Reading Cut) → next (at + k + l) (drop (k + l) s) ≡ r → on_accepted (leaf (tag_at s) (take k s) (take l (drop k s))) r ≡ accepted cut
          → GoodAfter sc (suc levels) n before s cut
      go (accepted rest) d g =
          subst (GoodAfter sc (suc levels) n before s) (cc)
          (good_leaf sc levels n before s (tag_at s) (take k s) (take l (drop k s)) (drop (k + l) s) rest (sym (split_in_three k l s)) f
          (later (at + k + l) (drop (k + l) s) rest d) h.0)
      go (refused reason place) d g = let z : ◌≡◌ {A = ℕ} 0 1 = cc in absurd (omega arith)
  after_good n before next at s later cut (Into m k l) h f e =
      go (inner m at (at + k) (take l (drop k s))) refl (next (at + k + l) (drop (k + l) s)) refl e
    where
      go : (q : Reading Cut) → inner m at (at + k) (take l (drop k s)) ≡ q → (r : Reading Cut) → next (at + k + l) (drop (k + l) s) ≡ r
          → in_order (nested (tag_at s) (take k s)) q r ≡ accepted cut → GoodAfter sc (suc levels) n before s cut
      go (accepted i) d (accepted rest) r g =
          subst (GoodAfter sc (suc levels) n before s) (cc)
          (good_nested sc levels n before s (tag_at s) (take k s) (take l (drop k s)) (drop (k + l) s) rest (sym (split_in_three k l s)) f.0
          (later (at + k + l) (drop (k + l) s) rest r) m i h.0 (below m at (at + k) (take l (drop k s)) i d))
      go (accepted i) d (refused reason place) r g = let z : ◌≡◌ {A = ℕ} 0 1 = cc in absurd (omega arith)
      go (refused reason place) d r f g = let z : ◌≡◌ {A = ℕ} 0 1 = cc in absurd (omega arith)

  -- After all steps.
  fields_good : (n : ℕ) (before : List ℕ) (fuel at : ℕ) (s : List ℕ) (cut : Cut) → fields_from sc levels inner n before fuel at s ≡ accepted cut
      → GoodAfter sc (suc levels) n before s cut
  unfolding fields_from
  fields_good n before zero at s cut e = let z : ◌≡◌ {A = ℕ} 0 1 = cc in absurd (omega arith)
  fields_good n before (suc fuel) at s cut e =
      after_good n before (fields_from sc levels inner n (tag_at s ∷ before) fuel) at s (fields_good n (tag_at s ∷ before) fuel) cut
      (step sc levels n before s) (step_means sc levels n before s) (step_fresh sc levels n before s) e

-- What the reading accepts has a good cut.
pub accepted_good : (sc : Schema) (levels n field at : ℕ) (s : List ℕ) (cut : Cut)
    → message_from sc levels n field at s ≡ accepted cut → Good sc levels n s cut
unfolding message_from
accepted_good sc zero n field at s cut e = let z : ◌≡◌ {A = ℕ} 0 1 = cc in absurd (omega arith)
accepted_good sc (suc levels) n field at s cut e =
    (fields_good sc levels (message_from sc levels) (accepted_good sc levels) n [] (suc (length s)) at s cut e).good

-- Every message is one deep or more.
pub depth_positive : (cut : Cut) → 1 ≤ depth cut
unfolding depth
depth_positive end = omega arith
depth_positive (leaf tag c b cut) = depth_positive cut
depth_positive (nested tag c inside cut) = omega arith

-- Where nested messages with a good cut are accepted, so is a message of good fields.
module _ (sc : Schema) (levels : ℕ) (inner : Inner)
    (below : (m field at : ℕ) (b : List ℕ) (cut : Cut) → Good sc levels m b cut → inner m field at b ≡ accepted cut) where
  fields_accepted : (cut : Cut) (n : ℕ) (before : List ℕ) (fuel at : ℕ) → Allowed sc n cut → Clear sc n before (tags cut) → depth cut ≤ suc levels
      → length (joined cut) < fuel → fields_from sc levels inner n before fuel at (joined cut) ≡ accepted cut
  unfolding fields_from after_step on_accepted in_order joined Allowed depth tags Clear
  fields_accepted end n before zero at a f d h = absurd (omega arith)
  fields_accepted end n before (suc fuel) at a f d h = rw (step_of_end sc levels n before)
  fields_accepted (leaf tag c b cut) n before zero at a f d h = absurd (omega arith)
  fields_accepted (leaf tag c b cut) n before (suc fuel) at a f d h =
      let k = part_size tag (length b) c a.0.whole in
      let l : length (c ++ b ++ joined cut) ≡ length c + length b + length (joined cut) = simp length-append (omega arith) in
      let r = fields_accepted cut n (tag ∷ before) fuel (at + length c + length b) a.1 (clear_more sc n before (tags cut) tag f.1 a.2) d (omega arith) in
      let p = in_three c b (joined cut) in
      rw (step_of_leaf sc levels n before tag c b (joined cut) a.0 f.0, field_tag tag c b (joined cut) a.0.whole, p.first, p.second, p.third, r)
  fields_accepted (nested tag c inside cut) n before zero at a f d h = absurd (omega arith)
  fields_accepted (nested tag c inside cut) n before (suc fuel) at a f d h =
      let m = a.0.0 in
      let b = joined inside in
      let k = part_size tag (length b) c a.0.1.whole in
      let i = depth_positive inside in
      let l : length (c ++ b ++ joined cut) ≡ length c + length b + length (joined cut) = simp length-append (omega arith) in
      let q = below m at (at + length c) b inside (record { divides = refl; allowed = a.0.2; shallow = omega arith }) in
      let r = fields_accepted cut n (tag ∷ before) fuel (at + length c + length b) a.1 (clear_more sc n before (tags cut) tag f.1 a.2) (omega arith)
      (omega arith) in
      let p = in_three c b (joined cut) in
      rw (step_of_nested sc levels n before m tag c b (joined cut) a.0.1 (omega arith) f.0, field_tag tag c b (joined cut) a.0.1.whole, p.first, p.second, p.third, q, r)

-- The reading accepts what has a good cut.
pub good_accepted : (sc : Schema) (levels n field at : ℕ) (s : List ℕ) (cut : Cut)
    → Good sc levels n s cut → message_from sc levels n field at s ≡ accepted cut
unfolding message_from
good_accepted sc zero n field at s cut g = let h = depth_positive cut in let k = g.shallow in absurd (omega arith)
good_accepted sc (suc levels) n field at s cut g =
    subst (λ (r : List ℕ). fields_from sc levels (message_from sc levels) n [] (suc (length r)) at r ≡ accepted cut) g.divides
    (fields_accepted sc levels (message_from sc levels) (good_accepted sc levels) cut n [] (suc (length (joined cut))) at g.allowed
    (clear_none sc n (tags cut)) g.shallow (omega arith))

-- The reading accepts a message with a cut exactly where that cut is good.
pub accepted_exactly : (sc : Schema) (n : ℕ) (s : List ℕ) (cut : Cut) → (reading sc n s ≡ accepted cut) ↔ Good sc depth_limit n s cut
unfolding reading
accepted_exactly sc n s cut = (accepted_good sc depth_limit n 0 0 s cut, good_accepted sc depth_limit n 0 0 s cut)

-- Octets have at most one good cut.
pub good_cut_unique : (sc : Schema) (levels n : ℕ) (s : List ℕ) (cut other : Cut) → Good sc levels n s cut → Good sc levels n s other → cut ≡ other
good_cut_unique sc levels n s cut other g h =
    let p = good_accepted sc levels n 0 0 s cut g in
    let q = good_accepted sc levels n 0 0 s other h in
    cc

-- ---- the same, of a message that is accepted

pub accepts_good : (sc : Schema) (levels n : ℕ) (s : List ℕ) → Accepts sc levels n s → (cut : Cut) × Good sc levels n s cut
unfolding Accepts IsAccepted
accepts_good sc levels n s a = (a.0, accepted_good sc levels n 0 0 s a.0 a.1)

pub good_accepts : (sc : Schema) (levels n : ℕ) (s : List ℕ) (cut : Cut) → Good sc levels n s cut → Accepts sc levels n s
unfolding Accepts IsAccepted
good_accepts sc levels n s cut g = (cut, good_accepted sc levels n 0 0 s cut g)

-- A message that is accepted may be one deep or more.
pub accepts_levels : (sc : Schema) (levels n : ℕ) (s : List ℕ) → Accepts sc levels n s → suc (levels - 1) ≡ levels
unfolding Accepts IsAccepted message_from
accepts_levels sc zero n s a = let e = a.1 in let z : ◌≡◌ {A = ℕ} 0 1 = cc in absurd (omega arith)
accepts_levels sc (suc levels) n s a = omega arith
