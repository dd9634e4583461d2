-- Trees whose shortest form reads back as the tree. A field put before such a tree gives another such tree.
use Prim.Native.Nat.{ℕ, suc, ◌≤◌, ◌<◌}
use native.Mathlib.Omega.{arith}
use mathlib.Core.Path.{◌≡◌, refl, sym, ap, ap₂, ◌∙◌, subst}
use mathlib.Core.Bool.{false}
use mathlib.Core.List.{List, ◌++◌}
use lib.ListN.{length}
use Rattle.octets.specs.Control.{least_control}
use Rattle.octets.proofs.ControlPart.{least_part}
use Rattle.table.specs.Entry.{inner_of}
use Rattle.table.specs.Schema.{Schema}
use Rattle.table.specs.declared.Meaning.TheVariants.{Message}
use Rattle.message.specs.Cut as cuts
use Rattle.message.specs.Cut.{Cut, joined, WholeField, Contents, NestedField, Allowed, Good}
use Rattle.message.specs.Single.{repeats}
use Rattle.message.specs.Tree.{Tree, Value, value, tree}
use Rattle.message.specs.Shortest.{least_contents, field, shortest}
use Rattle.message.proofs.Singles.{tags_of_tree}
use Rattle.writer_laws.specs.Given.{tags_of}

-- The shortest form of a tree, as a message of a number and at most so many levels deep, reads back as the tree.
pub record ReadsBack (sc : Schema) (levels n : ℕ) (w : Tree) : Type 0 where
  pub cut : Cut
  pub good : Good sc levels n (shortest w) cut
  pub is : tree sc n cut ≡ w

pub reads_end : (sc : Schema) (levels n : ℕ) → 1 ≤ levels → ReadsBack sc levels n Tree.end
unfolding joined Allowed cuts.depth tree shortest
reads_end sc levels n h = record { cut = Cut.end; good = record { divides = refl; allowed = tt; shallow = h }; is = refl }

module _ (tag : ℕ) (r : List ℕ) (h : tag < 65536) (k : length r ≤ 65536) where
  whole : WholeField tag (least_control tag (length r)) r
  whole = least_part tag (length r) (omega arith) (omega arith)

module _ (sc : Schema) (n tag : ℕ) (h : tag < 65536) (w : Tree) (once : repeats sc n (tags_of w) tag ≡ false) where
  -- The cut of the tree has the tags of the tree.
  once_cut : {levels : ℕ} (later : ReadsBack sc levels n w) → repeats sc n (cuts.tags later.cut) tag ≡ false
  unfolding tags_of
  once_cut later = ap (λ (ts : List ℕ). repeats sc n ts tag) (tags_of_tree sc n later.cut ∙ ap tags_of later.is) ∙ once

  pub reads_leaf : (levels : ℕ) (v : Value) → length (least_contents v) ≤ 65536 → Contents (sc.means n tag) (least_contents v)
      → value (sc.means n tag) (least_contents v) ≡ v → ReadsBack sc levels n w → ReadsBack sc levels n (Tree.leaf tag v w)
  unfolding joined Allowed cuts.depth tree shortest field
  reads_leaf levels v k a e later =
      let r = least_contents v in
      let c = least_control tag (length r) in
      record {
        cut = Cut.leaf tag c r later.cut;
        good =
            record {
              divides = ap (λ (x : List ℕ). c ++ r ++ x) later.good.divides;
              allowed = (record { whole = whole tag r h k; allowed = a }, later.good.allowed, once_cut later);
              shallow = later.good.shallow;
            };
        is = rw (e, later.is);
      }

  pub reads_nested : (levels m : ℕ) (inside : Tree) → length (shortest inside) ≤ 65536 → sc.means n tag ≡ Message m
      → ReadsBack sc levels m inside → ReadsBack sc (suc levels) n w → ReadsBack sc (suc levels) n (Tree.nested tag inside w)
  unfolding joined Allowed cuts.depth tree shortest field inner_of
  reads_nested levels m inside k e inner later =
      let r = shortest inside in
      let c = least_control tag (length r) in
      let p = inner.good.shallow in
      let q = later.good.shallow in
      let f : NestedField sc n m tag c r = record { whole = whole tag r h k; allowed = e } in
      record {
        cut = Cut.nested tag c inner.cut later.cut;
        good =
            record {
              divides = ap₂ (λ (x y : List ℕ). c ++ x ++ y) inner.good.divides later.good.divides;
              allowed = ((m, subst (λ (x : List ℕ). NestedField sc n m tag c x) (sym inner.good.divides) f, inner.good.allowed), later.good.allowed, once_cut later);
              shallow = omega arith;
            };
        is = rw (e, inner.is, later.is);
      }
