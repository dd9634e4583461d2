-- What a cut with a field in front of others is, by that field and by the others.
use Prim.Native.Nat.{ℕ, suc, ◌+◌, max}
use native.Mathlib.Omega.{arith}
use mathlib.Core.Path.{◌≡◌, refl}
use mathlib.Core.Bool.{false}
use mathlib.Core.List.{List, ◌∷◌, ◌++◌}
use Rattle.table.specs.Entry.{inner_of}
use Rattle.table.specs.Schema.{Schema}
use Rattle.message.specs.Cut.{Cut, joined, depth, LeafField, NestedField, tags, Allowed}
use Rattle.message.specs.Single.{repeats}
use Rattle.message.specs.Tree as trees
use Rattle.message.specs.Tree.{tree, value}
use Rattle.message.specs.Items.{Item, items, item_tag}
use Rattle.message_laws.specs.Swapped.{CutField, leaf, nested, tag_of, before}

-- The octets of the field.
unfoldable pub octets_of : CutField → List ℕ
octets_of (leaf tag part contents) = part ++ contents
octets_of (nested tag part inside) = part ++ joined inside

pub joined_before : (f : CutField) (rest : Cut) → joined (before f rest) ≡ octets_of f ++ joined rest
unfolding joined before octets_of
joined_before (leaf tag part contents) rest = refl
joined_before (nested tag part inside) rest = refl

-- Its depth: 0 if it is no message.
unfoldable pub depth_of : CutField → ℕ
depth_of (leaf tag part contents) = 0
depth_of (nested tag part inside) = suc (depth inside)

pub depth_before : (f : CutField) (rest : Cut) → depth (before f rest) ≡ max (depth_of f) (depth rest)
unfolding depth before depth_of
depth_before (leaf tag part contents) rest = omega arith
depth_before (nested tag part inside) rest = refl

-- Its tag.
pub tags_before : (f : CutField) (rest : Cut) → tags (before f rest) ≡ tag_of f ∷ tags rest
unfolding tags before tag_of
tags_before (leaf tag part contents) rest = refl
tags_before (nested tag part inside) rest = refl

-- The field in the tree, and how many fields the tree has for it, itself counted.
unfoldable pub item_of : Schema → ℕ → CutField → Item
item_of sc n (leaf tag part contents) = Item.leaf tag (value (sc.means n tag) contents)
item_of sc n (nested tag part inside) = Item.nested tag (tree sc (inner_of (sc.means n tag)) inside)

unfoldable pub fields_of : Schema → ℕ → CutField → ℕ
fields_of sc n (leaf tag part contents) = 1
fields_of sc n (nested tag part inside) = 1 + trees.fields (tree sc (inner_of (sc.means n tag)) inside)

pub items_before : (sc : Schema) (n : ℕ) (f : CutField) (rest : Cut) → items (tree sc n (before f rest)) ≡ item_of sc n f ∷ items (tree sc n rest)
unfolding items tree before item_of
items_before sc n (leaf tag part contents) rest = refl
items_before sc n (nested tag part inside) rest = refl

pub item_tag_lem : (sc : Schema) (n : ℕ) (f : CutField) → item_tag (item_of sc n f) ≡ tag_of f
unfolding item_tag item_of tag_of
item_tag_lem sc n (leaf tag part contents) = refl
item_tag_lem sc n (nested tag part inside) = refl

pub fields_before : (sc : Schema) (n : ℕ) (f : CutField) (rest : Cut)
    → trees.fields (tree sc n (before f rest)) ≡ fields_of sc n f + trees.fields (tree sc n rest)
unfolding trees.fields tree before fields_of
fields_before sc n (leaf tag part contents) rest = refl
fields_before sc n (nested tag part inside) rest = refl

-- Whether the field is allowed.
unfoldable pub FieldAllowed : Schema → ℕ → CutField → Type 0
FieldAllowed sc n (leaf tag part contents) = LeafField sc n tag part contents
FieldAllowed sc n (nested tag part inside) = (m : ℕ) × NestedField sc n m tag part (joined inside) × Allowed sc m inside

module _ (sc : Schema) (n : ℕ) where
  pub allowed_parts : (f : CutField) (rest : Cut) → Allowed sc n (before f rest)
      → FieldAllowed sc n f × Allowed sc n rest × (repeats sc n (tags rest) (tag_of f) ≡ false)
  unfolding Allowed before FieldAllowed tag_of
  allowed_parts (leaf tag part contents) rest a = a
  allowed_parts (nested tag part inside) rest a = a

  pub allowed_before : (f : CutField) (rest : Cut) → FieldAllowed sc n f → Allowed sc n rest → repeats sc n (tags rest) (tag_of f) ≡ false
      → Allowed sc n (before f rest)
  unfolding Allowed before FieldAllowed tag_of
  allowed_before (leaf tag part contents) rest a b c = (a, b, c)
  allowed_before (nested tag part inside) rest a b c = (a, b, c)
