-- The loop invariant of counting the fields of an accepted message.
use Prim.Native.Nat.{ℕ, suc, ◌+◌, ◌≤◌}
use native.Mathlib.Omega.{arith}
use mathlib.Core.Path.{◌≡◌, refl, sym, ap, ◌∙◌}
use mathlib.Core.List.{List}
use lib.ListN.{drop}
use Rattle.message.specs.Items.{items}
use Rattle.message.specs.internal.Accepts.{Accepts}
use Rattle.message.proofs.Accepted.{accepts_good, good_accepted}
use Rattle.message.proofs.Next.{Plain}
use Rattle.table.specs.Schema.{Schema}
use Rattle.table.specs.declared.Meaning.{Meaning}
use Rattle.table.specs.declared.Meaning.TheVariants.{Raw, Uint, Int, String, Text, Message}
use Rattle.message.specs.Cut.{Cut, Good}
use Rattle.message.specs.Tree.{Tree, tree}
use Rattle.message.specs.Reading.{message_from}
use Rattle.message_field.specs.internal.Heads.{Field, Fieldless, head_at}
use Rattle.text_message.specs.Text.{direct}
use Rattle.text_message.specs.internal.OfTree.{of_tree, direct_of}
use Rattle.message_field.proofs.FieldsByHead.{Remaining, all_remaining, none_remaining, Ends, ends, leaf_next, nested_next}

-- A function of the tree of an accepted message is the function of the tree of its cut.
pub tree_is : {A : Type 0} (f : Tree → A) (other : A) (sc : Schema) (levels n : ℕ) (s : List ℕ) (cut : Cut) → Good sc levels n s cut
    → of_tree f other sc n (message_from sc levels n 0 0 s) ≡ f (tree sc n cut)
unfolding of_tree
tree_is f other sc levels n s cut g = rw (good_accepted sc levels n 0 0 s cut g)

pub direct_is : (sc : Schema) (n : ℕ) (s : List ℕ) (cut : Cut) → Good sc 8 n s cut → direct_of sc n s ≡ direct (tree sc n cut)
unfolding direct_of
direct_is sc n s cut g = tree_is direct 0 sc 8 n s cut g

module _ (sc : Schema) (n : ℕ) (s : List ℕ) where
  -- The loop invariant: after i octets, k fields are counted.
  pub record Counted (i k : ℕ) : Type 0 where
    pub remaining : Remaining sc 7 n s i
    pub few : k ≤ i
    pub whole : direct_of sc n s ≡ k + direct (tree sc n remaining.rest)

  pub none_counted : Accepts sc 8 n s → Counted 0 0
  none_counted a =
      let g = accepts_good sc 8 n s a in
      record { remaining = all_remaining sc 7 n s g.0 g.1; few = omega arith; whole = direct_is sc n s g.0 g.1 ∙ omega arith }

  pub all_counted : (i k : ℕ) → Counted i k → Fieldless (head_at i (drop i s)) → k ≡ direct_of sc n s
  unfolding tree direct items
  all_counted i k p q =
      sym (p.whole ∙ ap (λ (c : Cut). k + direct (tree sc n c)) (none_remaining sc 7 n s i p.remaining _ refl q) ∙ omega arith)

  module _ (i k : ℕ) (p : Counted i k) (tag start stop : ℕ) (found : head_at i (drop i s) ≡ Field tag start stop) where
    pub count_ends : Ends sc 7 n s i p.remaining tag start stop found
    count_ends = ends sc 7 n s i p.remaining tag start stop found

    one_more : (remaining : Remaining sc 7 n s stop) → direct (tree sc n p.remaining.rest) ≡ suc (direct (tree sc n remaining.rest)) → Counted stop (k + 1)
    one_more left e =
        let h = count_ends in
        let g = p.few in
        let w = p.whole in
        record { remaining = left; few = omega arith; whole = w ∙ rw e (omega arith) }

    pub counted_more : Counted stop (k + 1)
    unfolding direct items Plain
    counted_more = go (sc.means n tag) refl
      where
        leaf : (kind : Meaning) → kind ≡ sc.means n tag → Plain kind → Counted stop (k + 1)
        leaf kind e q = let x = leaf_next sc 7 n s i p.remaining tag start stop found kind e q in one_more x.remaining (ap direct x.tree_is)

        go : (kind : Meaning) → kind ≡ sc.means n tag → Counted stop (k + 1)
        go Raw e = leaf Raw e tt
        go Uint e = leaf Uint e tt
        go Int e = leaf Int e tt
        go String e = leaf String e tt
        go Text e = leaf Text e tt
        go (Message m) e =
            let x = nested_next sc 7 n s i p.remaining tag start stop found (Message m) e m refl in one_more x.remaining (ap direct x.tree_is)
