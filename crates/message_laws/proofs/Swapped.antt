-- Swapping two adjacent fields changes neither whether a cut is good nor its counts; in their message every tag keeps its values.
use Prim.Native.Nat.{ℕ}
use native.Mathlib.Omega.{arith}
use mathlib.Core.Path.{◌≡◌, refl, sym, ap, ◌∙◌, subst}
use mathlib.Core.Bool.{Bool, true, false, cond, ◌&&◌, ◌||◌}
use mathlib.Core.List.{List, [], ◌∷◌}
use lib.Dec.{eqb}
use lib.ListN.{length, length-append}
use borrow.Author.Tests.{eqb-true}
use Rattle.octets.specs.ControlPart.{ControlPart}
use Rattle.octets.proofs.Bools.{or_left, or_right, or_neither}
use Rattle.table.specs.Entry.{inner_of}
use Rattle.table.specs.Schema.{Schema}
use Rattle.message.specs.Cut.{Cut, joined, depth, NestedField, tags, Allowed, Good}
use Rattle.message.specs.Single.{among, repeats}
use Rattle.message.specs.Tree as trees
use Rattle.message.specs.Tree.{tree}
use Rattle.message.specs.Items.{with_tag}
use Rattle.message.proofs.Singles.{repeats_more, either_way}
use Rattle.message_laws.specs.Swapped.{CutField, tag_of, before, prepend, swapped, SwappedIn, outermost, within}
use Rattle.message_laws.specs.Swaps.{values_of}
use Rattle.message_laws.proofs.FieldBefore.{joined_before, depth_before, tags_before, item_of, items_before, item_tag_lem, fields_before, allowed_parts, allowed_before}

-- What the cuts of a message before and after a swap have in common.
pub record Alike (sc : Schema) (n : ℕ) (cut other : Cut) : Type 0 where
  pub allowed : Allowed sc n cut → Allowed sc n other
  pub same_tags : (t : ℕ) → among t (tags other) ≡ among t (tags cut)
  pub same_length : length (joined other) ≡ length (joined cut)
  pub same_depth : depth other ≡ depth cut
  pub same_fields : trees.fields (tree sc n other) ≡ trees.fields (tree sc n cut)

module _ (sc : Schema) (n : ℕ) where
  -- A field repeats one of several if it repeats the first or one of the others.
  repeats_before : (f : CutField) (rest : Cut) (t : ℕ)
      → repeats sc n (tags (before f rest)) t ≡ sc.single n t && eqb (tag_of f) t || repeats sc n (tags rest) t
  repeats_before f rest t = ap (λ (ts : List ℕ). repeats sc n ts t) (tags_before f rest) ∙ repeats_more sc n (tag_of f) (tags rest) t

  module _ (a b : CutField) (rest : Cut) where
    -- Whichever of the two comes first, neither repeats the other or one of the fields behind them.
    once_swapped : repeats sc n (tags rest) (tag_of b) ≡ false → repeats sc n (tags (before b rest)) (tag_of a) ≡ false
        → (repeats sc n (tags rest) (tag_of a) ≡ false) × (repeats sc n (tags (before a rest)) (tag_of b) ≡ false)
    once_swapped p q =
        let u = tag_of a in
        let v = tag_of b in
        let r = sym (repeats_before b rest u) ∙ q in
        let first = or_left (sc.single n u && eqb v u) (repeats sc n (tags rest) u) r in (
          or_right (sc.single n u && eqb v u) (repeats sc n (tags rest) u) r,
          repeats_before a rest v ∙ or_neither (sc.single n v && eqb u v) (repeats sc n (tags rest) v) (either_way sc n v u ∙ first) p,
        )

    allowed_swapped : Allowed sc n (before a (before b rest)) → Allowed sc n (before b (before a rest))
    allowed_swapped h =
        let p = allowed_parts sc n a (before b rest) h in
        let q = allowed_parts sc n b rest p.1 in
        let r = once_swapped q.2 p.2 in
        allowed_before sc n b (before a rest) q.0 (allowed_before sc n a rest p.0 q.1 r.0) r.1

    among_swapped : (t : ℕ) → among t (tags (before b (before a rest))) ≡ among t (tags (before a (before b rest)))
    unfolding among
    among_swapped t =
        rw (tags_before b (before a rest), tags_before a rest, tags_before a (before b rest), tags_before b rest)
        (go (eqb (tag_of a) t) (eqb (tag_of b) t) (among t (tags rest)))
      where
        go : (p q r : Bool) → q || (p || r) ≡ p || (q || r)
        go true true r = refl
        go true false r = refl
        go false q r = refl

    alike_here : Alike sc n (before a (before b rest)) (before b (before a rest))
    alike_here =
        record {
          allowed = allowed_swapped;
          same_tags = among_swapped;
          same_length =
              rw (joined_before b (before a rest), joined_before a rest, joined_before a (before b rest), joined_before b rest)
              (simp length-append (omega arith));
          same_depth =
              rw (depth_before b (before a rest), depth_before a rest, depth_before a (before b rest), depth_before b rest) (omega arith);
          same_fields =
              rw (fields_before sc n b (before a rest), fields_before sc n a rest, fields_before sc n a (before b rest), fields_before sc n b rest)
              (omega arith);
        }

  -- The same field in front of both.
  alike_before : (a : CutField) (cut other : Cut) → Alike sc n cut other → Alike sc n (before a cut) (before a other)
  unfolding repeats among
  alike_before a cut other l =
      let size = l.same_length in
      let deep = l.same_depth in
      let count = l.same_fields in
      record {
        allowed = λ h.
            let p = allowed_parts sc n a cut h in
            allowed_before sc n a other p.0 (l.allowed p.1) (ap (λ (x : Bool). sc.single n (tag_of a) && x) (l.same_tags (tag_of a)) ∙ p.2);
        same_tags = λ t. rw (tags_before a other, tags_before a cut, l.same_tags t) refl;
        same_length = rw (joined_before a other, joined_before a cut) (simp length-append (omega arith));
        same_depth = rw (depth_before a other, depth_before a cut) (omega arith);
        same_fields = rw (fields_before sc n a other, fields_before sc n a cut) (omega arith);
      }

  alike_prepend : (front : List CutField) (cut other : Cut) → Alike sc n cut other → Alike sc n (prepend front cut) (prepend front other)
  unfolding prepend
  alike_prepend [] cut other l = l
  alike_prepend (a ∷ front) cut other l = alike_before a (prepend front cut) (prepend front other) (alike_prepend front cut other l)

-- A message inside another.
module _ (sc : Schema) (n tag : ℕ) (part : List ℕ) (cut other rest : Cut) (l : Alike sc (inner_of (sc.means n tag)) cut other) where
  still_nested : (m : ℕ) → NestedField sc n m tag part (joined cut) → NestedField sc n m tag part (joined other)
  still_nested m f = record { whole = subst (λ (k : ℕ). ControlPart tag k part) (sym l.same_length) f.whole; allowed = f.allowed }

  number_is : (m : ℕ) → NestedField sc n m tag part (joined cut) → inner_of (sc.means n tag) ≡ m
  unfolding inner_of
  number_is m f = rw f.allowed refl

  alike_within : Alike sc n (Cut.nested tag part cut rest) (Cut.nested tag part other rest)
  unfolding Allowed tags among joined depth trees.fields tree
  alike_within =
      let size = l.same_length in
      let deep = l.same_depth in
      let count = l.same_fields in
      record {
        allowed = λ h.
            let m = h.0.0 in
            let p = subst (λ (x : ℕ). Allowed sc x cut → Allowed sc x other) (number_is m h.0.1) l.allowed in
            ((m, still_nested m h.0.1, p h.0.2), h.1, h.2);
        same_tags = λ t. refl;
        same_length = simp length-append (omega arith);
        same_depth = omega arith;
        same_fields = omega arith;
      }

pub swapped_alike : (sc : Schema) (n : ℕ) (cut other x y : Cut) → SwappedIn cut other x y → Alike sc n cut other
swapped_alike sc n cut other x y (outermost p q (swapped front a b rest different)) =
    alike_prepend sc n front (before a (before b rest)) (before b (before a rest)) (alike_here sc n a b rest)
swapped_alike sc n cut other x y (within front tag part c o rest p q w) =
    alike_prepend sc n front (Cut.nested tag part c rest) (Cut.nested tag part o rest)
    (alike_within sc n tag part c o rest (swapped_alike sc (inner_of (sc.means n tag)) c o x y w))

-- ---- values

module _ (sc : Schema) (n t : ℕ) where
  -- The values of a tag, with one field more in front.
  values_before : (f : CutField) (rest : Cut)
      → values_of sc n (before f rest) t ≡ cond (eqb (tag_of f) t) (item_of sc n f ∷ values_of sc n rest t) (values_of sc n rest t)
  unfolding values_of with_tag
  values_before f rest = rw (items_before sc n f rest, item_tag_lem sc n f) refl

  values_here : (a b : CutField) (rest : Cut) → (tag_of a ≡ tag_of b → ⊥) → values_of sc n (before b (before a rest)) t ≡ values_of sc n (before a (before b rest)) t
  values_here a b rest different =
      rw (values_before b (before a rest), values_before a rest, values_before a (before b rest), values_before b rest)
      (go (eqb (tag_of a) t) (eqb (tag_of b) t) refl refl)
    where
      go : (p q : Bool) → eqb (tag_of a) t ≡ p → eqb (tag_of b) t ≡ q
          → cond q (item_of sc n b ∷ cond p (item_of sc n a ∷ values_of sc n rest t) (values_of sc n rest t)) (cond p (item_of sc n a ∷ values_of sc n rest t) (values_of sc n rest t))
          ≡ cond p (item_of sc n a ∷ cond q (item_of sc n b ∷ values_of sc n rest t) (values_of sc n rest t)) (cond q (item_of sc n b ∷ values_of sc n rest t) (values_of sc n rest t))
      go true true u v = absurd (different (eqb-true (tag_of a) t u ∙ sym (eqb-true (tag_of b) t v)))
      go true false u v = refl
      go false true u v = refl
      go false false u v = refl

  values_prepend : (front : List CutField) (x y : Cut) → values_of sc n y t ≡ values_of sc n x t → values_of sc n (prepend front y) t ≡ values_of sc n (prepend front x) t
  unfolding prepend
  values_prepend [] x y e = e
  values_prepend (a ∷ front) x y e = rw (values_before a (prepend front y), values_before a (prepend front x), values_prepend front x y e) refl

-- In the message in which the fields are swapped.
pub values_swapped : (sc : Schema) (cut other x y : Cut) → SwappedIn cut other x y → (n t : ℕ) → values_of sc n y t ≡ values_of sc n x t
values_swapped sc cut other x y (outermost p q (swapped front a b rest different)) n t =
    values_prepend sc n t front (before a (before b rest)) (before b (before a rest)) (values_here sc n t a b rest different)
values_swapped sc cut other x y (within front tag part c o rest p q w) n t = values_swapped sc c o x y w n t

-- ---- the other way round

pub swapped_back : (cut other x y : Cut) → SwappedIn cut other x y → SwappedIn other cut y x
swapped_back cut other x y (outermost p q (swapped front a b rest different)) = outermost other cut (swapped front b a rest (λ e. different (sym e)))
swapped_back cut other x y (within front tag part c o rest p q w) = within front tag part o c rest y x (swapped_back c o x y w)

-- ---- good cuts

pub swapped_good : (sc : Schema) (levels n : ℕ) (cut other x y : Cut) → SwappedIn cut other x y → Good sc levels n (joined cut) cut
    → Good sc levels n (joined other) other
swapped_good sc levels n cut other x y w g =
    let l = swapped_alike sc n cut other x y w in
    let d = l.same_depth in
    let h = g.shallow in
    record { divides = refl; allowed = l.allowed g.allowed; shallow = omega arith }
