-- The outermost fields of a message as a list, with the kind and the value of each.
use Rattle.std.specs.Prelude.{ℕ, cond, List, [], ◌∷◌, ℤ, pos, eqb}
use Rattle.table.specs.Entry.{kind_number}
use Rattle.table.specs.declared.Meaning.{Meaning}
use Rattle.table.specs.declared.Meaning.TheVariants.{Raw, Uint, Int, String, Text}
use Rattle.message.specs.Tree.{Value, raw, uint, int, string, text, Tree}

-- One field of a tree, without the fields that follow it.
pub data Item : Type 0 where
  leaf : ℕ → Value → Item
  nested : ℕ → Tree → Item

-- The outermost fields of a tree, in order.
unfoldable pub items : Tree → List Item
items Tree.end = []
items (Tree.leaf tag v rest) = leaf tag v ∷ items rest
items (Tree.nested tag inside rest) = nested tag inside ∷ items rest

unfoldable pub item_tag : Item → ℕ
item_tag (leaf t v) = t
item_tag (nested t inside) = t

-- The elements whose field has a tag. `item` is the field of an element.
unfoldable pub with_tag : {A : Type 0} → (A → Item) → ℕ → List A → List A
with_tag item t [] = []
with_tag item t (x ∷ l) = cond (eqb (item_tag (item x)) t) (x ∷ with_tag item t l) (with_tag item t l)

-- The kind of a value.
unfoldable pub kind_of : Value → Meaning
kind_of (raw s) = Raw
kind_of (uint v) = Uint
kind_of (int z) = Int
kind_of (string s) = String
kind_of (text s) = Text

-- The number of a field's kind: that of its value, or a message's.
unfoldable pub item_kind : Item → ℕ
item_kind (leaf t v) = kind_number (kind_of v)
item_kind (nested t inside) = 5

-- The value of a uint, 0 for any other kind.
unfoldable pub uint_of : Item → ℕ
uint_of (leaf t (raw s)) = 0
uint_of (leaf t (uint v)) = v
uint_of (leaf t (int z)) = 0
uint_of (leaf t (string s)) = 0
uint_of (leaf t (text s)) = 0
uint_of (nested t inside) = 0

-- The value of an int, 0 for any other kind.
unfoldable pub int_of : Item → ℤ
int_of (leaf t (raw s)) = pos 0
int_of (leaf t (uint v)) = pos 0
int_of (leaf t (int z)) = z
int_of (leaf t (string s)) = pos 0
int_of (leaf t (text s)) = pos 0
int_of (nested t inside) = pos 0
