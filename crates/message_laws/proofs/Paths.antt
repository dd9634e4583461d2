-- A cut and its tree have the same fields at the same paths, and the paths of a tree follow its lists of fields.
use Prim.Native.Nat.{ℕ, zero, suc}
use native.Mathlib.Omega.{arith}
use mathlib.Core.Path.{◌≡◌, refl, ap, subst}
use mathlib.Core.List.{List, [], ◌∷◌}
use mathlib.Core.Option.{Option, some}
use lib.ListN.{get_elem?}
use Rattle.table.specs.Entry.{inner_of, kind_number}
use Rattle.table.specs.Schema.{Schema}
use Rattle.message.specs.Cut.{Cut, end, leaf, nested, joined, LeafField, NestedField, Allowed}
use Rattle.message.specs.Tree.{Tree, value, tree}
use Rattle.message.specs.Items.{Item, items, item_tag, item_kind}
use Rattle.message.proofs.Fields.{kind_is}
use Rattle.message_laws.specs.Paths.{Field, follow, field_at, item_at, ReadAs}

-- ---- cut and tree

-- If two lists of fields are related field by field, a path leads to related fields.
module _ {A B : Type 0} (Related : A → B → Type 0) where
  abbrev Leads : (List ℕ → Option A) → (List ℕ → Option B) → Type 0
  Leads p q = (i : ℕ) (path : List ℕ) (x : A) → p (i ∷ path) ≡ some x → (y : B) × (q (i ∷ path) ≡ some y) × Related x y

  followed_both : (a : A) (b : B) (inside after : List ℕ → Option A) (inside' after' : List ℕ → Option B) → Related a b → Leads inside inside' → Leads after after'
      → (path : List ℕ) (x : A) → follow path a inside after ≡ some x → (y : B) × (follow path b inside' after' ≡ some y) × Related x y
  unfolding follow
  followed_both a b inside after inside' after' r deeper later [] x e = let z : ◌≡◌ {A = ℕ} 0 1 = cc in absurd (omega arith)
  followed_both a b inside after inside' after' r deeper later (zero ∷ []) x e = let z : a ≡ x = cc in (b, refl, subst (λ (t : A). Related t b) z r)
  followed_both a b inside after inside' after' r deeper later (zero ∷ i ∷ path) x e = deeper i path x e
  followed_both a b inside after inside' after' r deeper later (suc i ∷ path) x e = later i path x e

-- One field in the cut and in the tree.
module _ (sc : Schema) (n tag : ℕ) (part : List ℕ) where
  abbrev with_contents : List ℕ → Field
  with_contents s = record { number = n; tag = tag; kind = sc.means n tag; part = part; contents = s }

  read_leaf : (s : List ℕ) → LeafField sc n tag part s → ReadAs (with_contents s) (Item.leaf tag (value (sc.means n tag) s))
  unfolding item_tag item_kind
  read_leaf s f =
      record { same_tag = refl; same_kind = ap kind_number (kind_is (sc.means n tag) s f.allowed); same_value = λ no-message. refl }

  module _ (inside : Cut) (a : (m : ℕ) × NestedField sc n m tag part (joined inside) × Allowed sc m inside) where
    read_nested : (t : Tree) → ReadAs (with_contents (joined inside)) (Item.nested tag t)
    unfolding item_tag item_kind kind_number
    read_nested t =
        record { same_tag = refl; same_kind = rw a.1.allowed refl; same_value = λ no-message. absurd (no-message a.0 a.1.allowed) }

    inner_allowed : Allowed sc (inner_of (sc.means n tag)) inside
    unfolding inner_of
    inner_allowed = rw a.1.allowed a.2

-- The tree of a cut has every field of the cut,
pub field_in_tree : (sc : Schema) (cut : Cut) (n : ℕ) → Allowed sc n cut → (path : List ℕ) (f : Field) → field_at sc n cut path ≡ some f
    → (i : Item) × (item_at (tree sc n cut) path ≡ some i) × ReadAs f i
unfolding field_at item_at tree Allowed
field_in_tree sc end n a path f e = let z : ◌≡◌ {A = ℕ} 0 1 = cc in absurd (omega arith)
field_in_tree sc (leaf tag part contents rest) n a path f e =
    followed_both ReadAs _ _ _ _ _ _ (read_leaf sc n tag part contents a.0) (λ i p x k. let z : ◌≡◌ {A = ℕ} 0 1 = cc in absurd (omega arith))
    (λ i p. field_in_tree sc rest n a.1 (i ∷ p)) path f e
field_in_tree sc (nested tag part inside rest) n a path f e =
    followed_both ReadAs _ _ _ _ _ _ (read_nested sc n tag part inside a.0 (tree sc (inner_of (sc.means n tag)) inside))
    (λ i p. field_in_tree sc inside (inner_of (sc.means n tag)) (inner_allowed sc n tag part inside a.0) (i ∷ p))
    (λ i p. field_in_tree sc rest n a.1 (i ∷ p)) path f e

-- and the cut has every field of the tree.
pub item_in_cut : (sc : Schema) (cut : Cut) (n : ℕ) → Allowed sc n cut → (path : List ℕ) (i : Item) → item_at (tree sc n cut) path ≡ some i
    → (f : Field) × (field_at sc n cut path ≡ some f) × ReadAs f i
unfolding field_at item_at tree Allowed
item_in_cut sc end n a path x e = let z : ◌≡◌ {A = ℕ} 0 1 = cc in absurd (omega arith)
item_in_cut sc (leaf tag part contents rest) n a path x e =
    followed_both (λ (i : Item) (f : Field). ReadAs f i) _ _ _ _ _ _ (read_leaf sc n tag part contents a.0)
    (λ i p y k. let z : ◌≡◌ {A = ℕ} 0 1 = cc in absurd (omega arith)) (λ i p. item_in_cut sc rest n a.1 (i ∷ p)) path x e
item_in_cut sc (nested tag part inside rest) n a path x e =
    followed_both (λ (i : Item) (f : Field). ReadAs f i) _ _ _ _ _ _
    (read_nested sc n tag part inside a.0 (tree sc (inner_of (sc.means n tag)) inside))
    (λ i p. item_in_cut sc inside (inner_of (sc.means n tag)) (inner_allowed sc n tag part inside a.0) (i ∷ p))
    (λ i p. item_in_cut sc rest n a.1 (i ∷ p)) path x e

-- ---- paths and lists of fields

-- A path of one position leads to the field at that position in the list of fields.
pub item_at_position : (t : Tree) (i : ℕ) → item_at t (i ∷ []) ≡ get_elem? (items t) i
unfolding item_at follow items
item_at_position Tree.end i = refl
item_at_position (Tree.leaf tag v rest) zero = refl
item_at_position (Tree.leaf tag v rest) (suc i) = item_at_position rest i
item_at_position (Tree.nested tag inside rest) zero = refl
item_at_position (Tree.nested tag inside rest) (suc i) = item_at_position rest i

-- A longer path leads into the message at its first position.
pub item_inside : (t : Tree) (i j : ℕ) (path : List ℕ) (tag : ℕ) (inside : Tree) → item_at t (i ∷ []) ≡ some (Item.nested tag inside)
    → item_at t (i ∷ j ∷ path) ≡ item_at inside (j ∷ path)
unfolding item_at follow
item_inside Tree.end i j path tag inside e = let z : ◌≡◌ {A = ℕ} 0 1 = cc in absurd (omega arith)
item_inside (Tree.leaf t v rest) zero j path tag inside e = let z : ◌≡◌ {A = ℕ} 0 1 = cc in absurd (omega arith)
item_inside (Tree.leaf t v rest) (suc i) j path tag inside e = item_inside rest i j path tag inside e
item_inside (Tree.nested t x rest) zero j path tag inside e = let z : x ≡ inside = cc in ap (λ (y : Tree). item_at y (j ∷ path)) z
item_inside (Tree.nested t x rest) (suc i) j path tag inside e = item_inside rest i j path tag inside e
