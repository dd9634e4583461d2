-- The tree of a message: its fields in order, each with tag, kind and value.
use Rattle.std.specs.Prelude.{ℕ, suc, ◌+◌, max, List, ℤ}
use Rattle.octets.specs.Number as octets
use Rattle.octets.specs.Signed.{integer}
use Rattle.table.specs.Entry.{inner_of}
use Rattle.table.specs.Schema.{Schema}
use Rattle.table.specs.declared.Meaning.{Meaning}
use Rattle.table.specs.declared.Meaning.TheVariants.{Raw, Uint, Int, String, Text, Message}
use Rattle.message.specs.Cut.{Cut}

-- The value of a field that is no message, by its kind.
pub data Value : Type 0 where
  raw : List ℕ → Value
  uint : ℕ → Value
  int : ℤ → Value
  string : List ℕ → Value
  text : List ℕ → Value

-- The fields of a message. Two messages read the same (document 01's term) when they have the same tree.
pub data Tree : Type 0 where
  end : Tree
  leaf : ℕ → Value → Tree → Tree
  nested : ℕ → Tree → Tree → Tree

-- How many fields there are, those of nested messages included.
unfoldable pub fields : Tree → ℕ
fields end = 0
fields (leaf tag value rest) = 1 + fields rest
fields (nested tag inside rest) = 1 + fields inside + fields rest

-- How deep the messages go; a message with no nested ones has depth 1.
unfoldable pub depth : Tree → ℕ
depth end = 1
depth (leaf tag value rest) = depth rest
depth (nested tag inside rest) = max (suc (depth inside)) (depth rest)

-- The value of contents by their kind. A good cut has no leaf of kind message, so that case is never used.
unfoldable pub value : Meaning → List ℕ → Value
value Raw s = raw s
value Uint s = uint (octets.big_endian s)
value Int s = int (integer s)
value String s = string s
value Text s = text s
value (Message m) s = raw s

-- The tree that a cut gives under a schema and a message number.
unfoldable pub tree : Schema → ℕ → Cut → Tree
tree sc n Cut.end = Tree.end
tree sc n (Cut.leaf tag part contents rest) = Tree.leaf tag (value (sc.means n tag) contents) (tree sc n rest)
tree sc n (Cut.nested tag part inside rest) = Tree.nested tag (tree sc (inner_of (sc.means n tag)) inside) (tree sc n rest)
