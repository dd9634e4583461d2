-- Reading the fields of an accepted message one after the other by their heads. A message may be a span of other octets: s is then the
-- octets up to its end, and the offset i goes from its start to its end.
use Prim.Native.Nat.{ℕ, zero, suc, ◌+◌, ◌-◌, ◌≤◌, ◌<◌}
use native.Mathlib.Omega.{arith}
use mathlib.Core.Path.{◌≡◌, refl, sym, ap, ◌∙◌, subst}
use mathlib.Core.List.{List}
use lib.ListN.{length, take, drop, length-drop}
use lib.Seq.{drop-drop}
use Rattle.table.specs.Entry.{inner_of}
use Rattle.table.specs.Schema.{Schema}
use Rattle.table.specs.declared.Meaning.{Meaning}
use Rattle.table.specs.declared.Meaning.TheVariants.{Message}
use Rattle.message.specs.Cut.{Cut, end, Contents, Good}
use Rattle.message.specs.Tree.{Tree, value, tree}
use Rattle.message.proofs.Accepted.{depth_positive}
use Rattle.message.proofs.Next.{Plain, next_leaf, next_nested, first_field, nothing_remaining}
use Rattle.message_field.specs.internal.Heads.{head_at, Fieldless}
use Rattle.message_field.specs.internal.Heads.{Head}
use Rattle.message_field.specs.internal.Heads.{Field}
use Rattle.message_field.proofs.Heads.{HeadSpan, head_span, head_field}

-- A cut that is good with fewer levels is good with more.
pub good_deeper : (sc : Schema) (levels more n : ℕ) (s : List ℕ) (cut : Cut) → levels ≤ more → Good sc levels n s cut → Good sc more n s cut
good_deeper sc levels more n s cut h g = let k = g.shallow in record { divides = g.divides; allowed = g.allowed; shallow = omega arith }

module _ (sc : Schema) (levels n : ℕ) (s : List ℕ) where
  -- The fields that remain after i octets.
  pub record Remaining (i : ℕ) : Type 0 where
    pub rest : Cut
    pub good : Good sc (suc levels) n (drop i s) rest
    pub inside : i ≤ length s

  abbrev pub all_remaining : (cut : Cut) → Good sc (suc levels) n s cut → Remaining 0
  all_remaining cut g = record { rest = cut; good = g; inside = omega arith }

  -- If there is no head at i, no field remains.
  pub none_remaining : (i : ℕ) (p : Remaining i) (h : Head) → head_at i (drop i s) ≡ h → Fieldless h → p.rest ≡ end
  unfolding Fieldless
  none_remaining i p h e q = go (length (drop i s)) refl
    where
      go : (l : ℕ) → length (drop i s) ≡ l → p.rest ≡ end
      go zero k = nothing_remaining sc (suc levels) n (drop i s) p.rest p.good k
      go (suc l) k =
          let w = first_field sc (suc levels) n (drop i s) p.rest p.good (omega arith) in
          let b = w.inside in
          let f : h ≡ Field w.tag (i + w.size) (i + w.size + w.len) =
          sym (head_field i (drop i s) w.tag w.len w.size w.control_part (omega arith) ∙ e) in
          absurd (subst Fieldless f q)

  module _ (i : ℕ) (p : Remaining i) (tag start stop : ℕ) (found : head_at i (drop i s) ≡ Field tag start stop) where
    pub here : HeadSpan i (drop i s) tag start stop
    here = head_span i (drop i s) tag start stop found

    -- The field ends within the message.
    pub record Ends : Type 0 where
      pub onward : i < stop
      pub ordered : start ≤ stop
      pub inside : stop ≤ length s

    pub ends : Ends
    ends =
        let x = here in
        let d = length-drop i s in
        let j = p.inside in
        record { onward = omega arith; ordered = omega arith; inside = omega arith }

    -- The field's contents.
    abbrev pub field_contents : List ℕ
    field_contents = take (stop - start) (drop start s)

    contents_are : take here.len (drop here.size (drop i s)) ≡ field_contents
    contents_are =
        let x = here in
        let q : here.len ≡ stop - start = omega arith in
        rw (drop-drop here.size i s, ← here.start_is, q)

    rest_is : drop (here.size + here.len) (drop i s) ≡ drop stop s
    rest_is =
        let x = here in
        let q : i + (here.size + here.len) ≡ stop = omega arith in
        rw (drop-drop (here.size + here.len) i s, q)

    abbrev before_contents : List ℕ
    before_contents = take here.size (drop i s)

    module _ (k : Meaning) (means : k ≡ sc.means n tag) where
      -- A field that is no message, and the fields after it.
      pub record LeafNext : Type 0 where
        pub remaining : Remaining stop
        pub contents : Contents k field_contents
        pub cut_is : p.rest ≡ Cut.leaf tag before_contents field_contents remaining.rest
        pub tree_is : tree sc n p.rest ≡ Tree.leaf tag (value k field_contents) (tree sc n remaining.rest)

      pub leaf_next : Plain k → LeafNext
      unfolding tree
      leaf_next q =
          let x = next_leaf sc levels n tag here.len here.size (drop i s) p.rest p.good here.control_part (subst Plain means q) in
          record {
            remaining = record { rest = x.rest; good = subst (λ (r : List ℕ). Good sc (suc levels) n r x.rest) rest_is x.good; inside = ends.inside };
            contents = rw (means, ← contents_are) x.contents;
            cut_is = x.cut_is ∙ rw contents_are;
            tree_is = ap (tree sc n) x.cut_is ∙ rw (contents_are, ← means);
          }

      -- A field that is a message of the number m, and the fields after it.
      pub record NestedNext (m : ℕ) : Type 0 where
        pub remaining : Remaining stop
        pub inner : Cut
        pub good_inner : Good sc levels m field_contents inner
        pub positive : 1 ≤ levels
        pub cut_is : p.rest ≡ Cut.nested tag before_contents inner remaining.rest
        pub tree_is : tree sc n p.rest ≡ Tree.nested tag (tree sc m inner) (tree sc n remaining.rest)

      pub nested_next : (m : ℕ) → k ≡ Message m → NestedNext m
      unfolding tree inner_of
      nested_next m q =
          let x = next_nested sc levels n tag here.len here.size (drop i s) p.rest p.good here.control_part m (sym means ∙ q) in
          let g = subst (λ (r : List ℕ). Good sc levels m r x.inner) contents_are x.good_inner in
          let y = g.shallow in
          let z = depth_positive x.inner in
          record {
            remaining = record { rest = x.rest; good = subst (λ (r : List ℕ). Good sc (suc levels) n r x.rest) rest_is x.good; inside = ends.inside };
            inner = x.inner;
            good_inner = g;
            positive = omega arith;
            cut_is = x.cut_is;
            tree_is = ap (tree sc n) x.cut_is ∙ ap (λ (j : Meaning). Tree.nested tag (tree sc (inner_of j) x.inner) (tree sc n x.rest)) (sym means ∙ q);
          }
