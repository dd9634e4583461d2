-- The fields of a message by their paths. A path is a list of positions, one for each message that it enters, from the outermost message down to
-- the one that the field is in. A position counts the fields of a message from 0. So 2 ∷ [] leads to the third of the outermost fields, and
-- 2 ∷ 0 ∷ [] to the first field of the message in it.
use Rattle.std.specs.Prelude.{ℕ, zero, suc, ◌≡◌, List, [], ◌∷◌}
use Rattle.std.proofs.Math.Option.{Option, none, some}
use Rattle.table.specs.Entry.{inner_of, kind_number}
use Rattle.table.specs.Schema.{Schema}
use Rattle.table.specs.declared.Meaning.{Meaning}
use Rattle.table.specs.declared.Meaning.TheVariants.{Message}
use Rattle.message.specs.Cut.{Cut, end, leaf, nested, joined}
use Rattle.message.specs.Tree.{Tree, value}
use Rattle.message.specs.Items.{Item, item_tag, item_kind}

-- A field: the number of the message that it is in, its tag, its kind, its control part and its contents. The value of a field that is no message
-- is `value kind contents` (message, specs/Tree).
pub record Field : Type 0 where
  pub number : ℕ
  pub tag : ℕ
  pub kind : Meaning
  pub part : List ℕ
  pub contents : List ℕ

-- Follows a path in a list of fields. `first` is the first of them; `inside` and `after` give what a path leads to inside that field and in the fields
-- after it.
unfoldable pub follow : {A : Type 0} → List ℕ → A → (List ℕ → Option A) → (List ℕ → Option A) → Option A
follow [] first inside after = none
follow (zero ∷ []) first inside after = some first
follow (zero ∷ i ∷ path) first inside after = inside (i ∷ path)
follow (suc i ∷ path) first inside after = after (i ∷ path)

-- The field at a path, of a cut under a schema and a message number.
unfoldable pub field_at : Schema → ℕ → Cut → List ℕ → Option Field
field_at sc n end path = none
field_at sc n (leaf tag part contents rest) path =
    follow path (record { number = n; tag = tag; kind = sc.means n tag; part = part; contents = contents }) (λ deeper. none) (field_at sc n rest)
field_at sc n (nested tag part inside rest) path =
    follow path (record { number = n; tag = tag; kind = sc.means n tag; part = part; contents = joined inside })
    (field_at sc (inner_of (sc.means n tag)) inside) (field_at sc n rest)

-- The field at a path of a tree.
unfoldable pub item_at : Tree → List ℕ → Option Item
item_at Tree.end path = none
item_at (Tree.leaf tag v rest) path = follow path (Item.leaf tag v) (λ deeper. none) (item_at rest)
item_at (Tree.nested tag inside rest) path = follow path (Item.nested tag inside) (item_at inside) (item_at rest)

-- A field of a tree has the tag, the kind and, unless it is a message, the value of a field of a cut.
pub record ReadAs (f : Field) (i : Item) : Type 0 where
  pub same_tag : item_tag i ≡ f.tag
  pub same_kind : item_kind i ≡ kind_number f.kind
  pub same_value : ((m : ℕ) → f.kind ≡ Message m → ⊥) → i ≡ Item.leaf f.tag (value f.kind f.contents)
