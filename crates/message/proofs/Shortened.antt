-- The shortest form of a tree that a message reads as has a good cut and the same tree, and all other octets with a good cut and that
-- tree are more.
use Prim.Native.Nat.{ℕ, ◌+◌, ◌≤◌, ◌<◌}
use native.Mathlib.Omega.{arith}
use mathlib.Core.Path.{◌≡◌, refl, sym, ap, ap₂, ◌∙◌, subst}
use mathlib.Core.Bool.{false}
use mathlib.Core.List.{List, [], ◌++◌, map}
use lib.ListN.{length, length-append}
use Rattle.octets.specs.Number.{Octets, big_endian}
use Rattle.octets.specs.Signed.{integer}
use Rattle.octets.specs.Control.{least_control}
use Rattle.octets.proofs.Number.{octets_append, octets_before, octets_after, number_least_uint, number_below_most, octets_least_uint}
use Rattle.octets.proofs.Integer.{integer_least_int, integer_in_range, octets_least_int, least_int_no_shorter}
use Rattle.octets.proofs.Shorter.{no_shorter_self, no_shorter_append, no_shorter_other, least_uint_no_shorter}
use Rattle.octets.specs.NoShorter.{NoShorter}
use Rattle.octets.proofs.ControlPart.{part_bounds, least_part, octets_least_control, least_control_least}
use Rattle.table.specs.Entry.{inner_of}
use Rattle.table.specs.Schema.{Schema}
use Rattle.table.specs.declared.Meaning.{Meaning}
use Rattle.table.specs.declared.Meaning.TheVariants.{Raw, Uint, Int, String, Text, Message}
use Rattle.message.specs.Cut as cuts
use Rattle.message.specs.Cut.{Cut, joined, WholeField, Contents, LeafField, NestedField, tags, Allowed, Good}
use Rattle.message.specs.Single.{repeats}
use Rattle.message.specs.Tree as trees
use Rattle.message.specs.Tree.{Tree, Value, value, tree}
use Rattle.message.specs.Items.{items, item_tag}
use Rattle.reading.specs.Reading.{depth_limit}
use Rattle.message.specs.ReadTheSame.{OthersMore, IsShortest}
use Rattle.message.proofs.Singles.{tags_of_tree}
use Rattle.message.proofs.Accepted.{good_cut_unique}
use Rattle.message.specs.Shortest.{least_contents, field, shortest}

-- The least contents of a value are no longer than contents that mean it, mean the same, and are as allowed.
pub record Lessened (k : Meaning) (b : List ℕ) : Type 0 where
  pub no_shorter : NoShorter (least_contents (value k b)) b
  same_value : value k (least_contents (value k b)) ≡ value k b
  contents : Contents k (least_contents (value k b))
  octets : Octets (least_contents (value k b))

pub lessened : (k : Meaning) (b : List ℕ) → Octets b → Contents k b → Lessened k b
unfolding least_contents value Contents
lessened Raw b o h = record { no_shorter = no_shorter_self b; same_value = refl; contents = tt; octets = o }
lessened Uint b o h =
    let n = least_uint_no_shorter b o h in
    let k = n.long in
    record {
      no_shorter = n;
      same_value = ap Value.uint (number_least_uint (big_endian b) (number_below_most b 8 o h));
      contents = omega arith;
      octets = octets_least_uint (big_endian b);
    }
lessened Int b o h =
    let n = least_int_no_shorter b o h in
    let k = n.long in
    record {
      no_shorter = n;
      same_value = ap Value.int (integer_least_int (integer b) (integer_in_range b o h));
      contents = omega arith;
      octets = octets_least_int (integer b);
    }
lessened String b o h = record { no_shorter = no_shorter_self b; same_value = refl; contents = tt; octets = o }
lessened Text b o h = record { no_shorter = no_shorter_self b; same_value = refl; contents = h; octets = o }
lessened (Message m) b o h = absurd h

-- A whole field with contents no longer than before keeps its tag, and is no shorter.
record Refitted (tag : ℕ) (c b r : List ℕ) : Type 0 where
  whole : WholeField tag (least_control tag (length r)) r
  no_shorter : NoShorter (field tag r) (c ++ b)
  octets : Octets (field tag r)

refitted : (tag : ℕ) (c b r : List ℕ) → Octets c → Octets r → WholeField tag c b → NoShorter r b → Refitted tag c b r
unfolding field
refitted tag c b r o p w n =
    let k = part_bounds c tag (length b) o w in
    let h = n.long in
    let least = least_control_least c tag (length b) (length r) o w h in
    let l = least.0 in
    record {
      whole = least_part tag (length r) k.0 (omega arith);
      no_shorter =
          record {
            long = simp length-append (omega arith);
            same = λ s.
                let f : length (least_control tag (length r)) + length r ≡ length c + length b = simp length-append at s in
                ap₂ (λ (x y : List ℕ). x ++ y) (least.1 (omega arith) (omega arith)) (n.same (omega arith));
          };
      octets = octets_append (least_control tag (length r)) r (octets_least_control tag (length r) k.0 (omega arith)) p;
    }

-- The cut of a tree's shortest form.
cut_of : Tree → Cut
cut_of Tree.end = Cut.end
cut_of (Tree.leaf tag v rest) = Cut.leaf tag (least_control tag (length (least_contents v))) (least_contents v) (cut_of rest)
cut_of (Tree.nested tag inside rest) = Cut.nested tag (least_control tag (length (shortest inside))) (cut_of inside) (cut_of rest)

joined_cut_of : (t : Tree) → joined (cut_of t) ≡ shortest t
unfolding joined cut_of shortest field
joined_cut_of Tree.end = refl
joined_cut_of (Tree.leaf tag v rest) = rw (joined_cut_of rest)
joined_cut_of (Tree.nested tag inside rest) = rw (joined_cut_of inside, joined_cut_of rest)

-- What holds of the shortest form of the tree t of a cut.
pub record Short (sc : Schema) (n : ℕ) (cut : Cut) (t : Tree) : Type 0 where
  is : tree sc n cut ≡ t
  allowed : Allowed sc n (cut_of t)
  same_tree : tree sc n (cut_of t) ≡ t
  same_depth : cuts.depth (cut_of t) ≡ cuts.depth cut
  pub no_shorter : NoShorter (shortest t) (joined cut)
  octets : Octets (shortest t)

module _ (sc : Schema) (n : ℕ) where
  -- A tag that is not repeated by the fields of a cut is not repeated in the shortest form.
  still_once : (tag : ℕ) (cut : Cut) (t : Tree) → Short sc n cut t → repeats sc n (tags cut) tag ≡ false → repeats sc n (tags (cut_of t)) tag ≡ false
  still_once tag cut t h once =
      let same : tags (cut_of t) ≡ tags cut =
      tags_of_tree sc n (cut_of t) ∙ ap (λ (u : Tree). map item_tag (items u)) (h.same_tree ∙ sym h.is) ∙ sym (tags_of_tree sc n cut) in
      rw same once

  short_end : Short sc n Cut.end Tree.end
  unfolding tree Allowed cut_of cuts.depth shortest joined Octets
  short_end = record { is = refl; allowed = tt; same_tree = refl; same_depth = refl; no_shorter = no_shorter_self []; octets = tt }

  short_leaf : (tag : ℕ) (c b : List ℕ) (rest : Cut) (t : Tree) → LeafField sc n tag c b → repeats sc n (tags rest) tag ≡ false → Octets c → Octets b
      → Short sc n rest t → Short sc n (Cut.leaf tag c b rest) (Tree.leaf tag (value (sc.means n tag) b) t)
  unfolding tree Allowed cut_of cuts.depth shortest joined
  short_leaf tag c b rest t f once oc ob later =
      let k = sc.means n tag in
      let less = lessened k b ob f.allowed in
      let fit = refitted tag c b (least_contents (value k b)) oc less.octets f.whole less.no_shorter in
      let r = least_contents (value k b) in
      record {
        is = rw later.is;
        allowed = (record { whole = fit.whole; allowed = less.contents }, later.allowed, still_once tag rest t later once);
        same_tree = rw (less.same_value, later.same_tree);
        same_depth = later.same_depth;
        no_shorter = no_shorter_append (field tag r) (c ++ b) (shortest t) (joined rest) fit.no_shorter later.no_shorter;
        octets = octets_append (field tag r) (shortest t) fit.octets later.octets;
      }

  short_nested : (m tag : ℕ) (c : List ℕ) (inside rest : Cut) (u t : Tree) → NestedField sc n m tag c (joined inside)
      → repeats sc n (tags rest) tag ≡ false → Octets c → Short sc m inside u → Short sc n rest t → Short sc n (Cut.nested tag c inside rest) (Tree.nested tag u t)
  unfolding tree Allowed cut_of cuts.depth shortest joined inner_of
  short_nested m tag c inside rest u t f once oc inner later =
      let r = shortest u in
      let b = joined inside in
      let fit = refitted tag c b r oc inner.octets f.whole inner.no_shorter in
      let w : WholeField tag (least_control tag (length r)) (joined (cut_of u)) =
      subst (λ (x : List ℕ). WholeField tag (least_control tag (length r)) x) (sym (joined_cut_of u)) fit.whole in
      record {
        is = rw (f.allowed, inner.is, later.is);
        allowed = ((m, record { whole = w; allowed = f.allowed }, inner.allowed), later.allowed, still_once tag rest t later once);
        same_tree = rw (f.allowed, inner.same_tree, later.same_tree);
        same_depth = rw (inner.same_depth, later.same_depth);
        no_shorter = no_shorter_append (field tag r) (c ++ b) (shortest t) (joined rest) fit.no_shorter later.no_shorter;
        octets = octets_append (field tag r) (shortest t) fit.octets later.octets;
      }

-- The tree of a cut of allowed fields has such a shortest form.
pub short : (sc : Schema) (cut : Cut) (n : ℕ) → Allowed sc n cut → Octets (joined cut) → Short sc n cut (tree sc n cut)
unfolding Allowed joined
short sc Cut.end n a o = unfold tree in short_end sc n
short sc (Cut.leaf tag c b rest) n a o =
    let h = octets_before (c ++ b) (joined rest) o in
    let s = short_leaf sc n tag c b rest (tree sc n rest) a.0 a.2 (octets_before c b h) (octets_after c b h)
    (short sc rest n a.1 (octets_after (c ++ b) (joined rest) o)) in
    subst (Short sc n (Cut.leaf tag c b rest)) (sym s.is) s
short sc (Cut.nested tag c inside rest) n a o =
    let h = octets_before (c ++ joined inside) (joined rest) o in
    let m = a.0.0 in
    let s = short_nested sc n m tag c inside rest (tree sc m inside) (tree sc n rest) a.0.1 a.2 (octets_before c (joined inside) h)
    (short sc inside m a.0.2 (octets_after c (joined inside) h))
    (short sc rest n a.1 (octets_after (c ++ joined inside) (joined rest) o)) in
    subst (Short sc n (Cut.nested tag c inside rest)) (sym s.is) s

-- A message accepted with a cut, and its tree.
module _ (sc : Schema) (levels n : ℕ) (s : List ℕ) (cut : Cut) (o : Octets s) (g : Good sc levels n s cut) where
  shortened : Short sc n cut (tree sc n cut)
  shortened = short sc cut n g.allowed (subst Octets (sym g.divides) o)

  -- The shortest form of a tree that octets read as has a good cut with that tree.
  pub shortest_good : (other : Cut) × Good sc levels n (shortest (tree sc n cut)) other × (tree sc n other ≡ tree sc n cut)
  shortest_good = (
    cut_of (tree sc n cut),
    record {
      divides = joined_cut_of (tree sc n cut);
      allowed = shortened.allowed;
      shallow = subst (λ (d : ℕ). d ≤ levels) (sym shortened.same_depth) g.shallow;
    },
    shortened.same_tree,
  )

  pub shortest_octets : Octets (shortest (tree sc n cut))
  shortest_octets = shortened.octets

  pub shortest_no_longer : length (shortest (tree sc n cut)) ≤ length s
  shortest_no_longer = subst (λ (x : List ℕ). length (shortest (tree sc n cut)) ≤ length x) g.divides shortened.no_shorter.long

  -- All other octets, of any length, with a good cut and the same tree are more than the shortest form.
  pub others_longer : (shortest (tree sc n cut) ≡ s → ⊥) → length (shortest (tree sc n cut)) < length s
  others_longer ne =
      no_shorter_other (shortest (tree sc n cut)) s (subst (NoShorter (shortest (tree sc n cut))) g.divides shortened.no_shorter) ne

-- The depth of a tree is that of its cut.
pub tree_depth : (sc : Schema) (cut : Cut) (n : ℕ) → trees.depth (tree sc n cut) ≡ cuts.depth cut
unfolding tree trees.depth cuts.depth
tree_depth sc Cut.end n = refl
tree_depth sc (Cut.leaf tag c b rest) n = tree_depth sc rest n
tree_depth sc (Cut.nested tag c inside rest) n = rw (tree_depth sc inside (inner_of (sc.means n tag)), tree_depth sc rest n)

-- The shortest form of the tree of a message is the shortest of the octets that read the same.
pub others_more : (sc : Schema) (n : ℕ) (s : List ℕ) (cut : Cut) → Good sc depth_limit n s cut → OthersMore sc n s (shortest (tree sc n cut))
unfolding OthersMore
others_more sc n s cut g r o same ne =
    let one : same.first ≡ cut = good_cut_unique sc depth_limit n s same.first cut same.first_good g in
    let x : shortest (tree sc n same.second) ≡ shortest (tree sc n cut) = ap shortest (same.same_tree ∙ ap (tree sc n) one) in
    subst (λ (l : List ℕ). length l < length r) x
    (others_longer sc depth_limit n r same.second o same.second_good (λ q. ne (sym q ∙ x)))

pub is_shortest : (sc : Schema) (n : ℕ) (s : List ℕ) (cut : Cut) → Octets s → Good sc depth_limit n s cut → IsShortest sc n s (shortest (tree sc n cut))
is_shortest sc n s cut o g =
    let f = shortest_good sc depth_limit n s cut o g in
    record {
      shortest_octets = shortest_octets sc depth_limit n s cut o g;
      reads_the_same = record { first = cut; second = f.0; first_good = g; second_good = f.1; same_tree = f.2 };
      others_more = others_more sc n s cut g;
    }
