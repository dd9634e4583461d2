-- The fields that calls of the writer give.
use Rattle.std.specs.Prelude.{ℕ, suc, List, map}
use Rattle.table.specs.Entry.{inner_of}
use Rattle.table.specs.Schema.{Schema}
use Rattle.message.specs.Items.{items, item_tag}
use Rattle.message.specs.Tree.{Tree, nested}

-- The fields given so far. `message w`: nothing is open, and w holds the fields of the outermost message. `opened tag w around`: a
-- message field with this tag is open, w holds the fields given inside it, and `around` those given before it was opened. In each of
-- these trees the field given last stands first.
pub data Given : Type 0 where
  message : Tree → Given
  opened : ℕ → Tree → Given → Given

-- A change of the fields of the innermost message.
unfoldable pub on_fields : (Tree → Tree) → Given → Given
on_fields f (message w) = message (f w)
on_fields f (opened tag w around) = opened tag (f w) around

-- A closed field is one of the fields of the message around it. Where nothing is open there is nothing to close.
unfoldable pub closed : Given → Given
closed (message w) = message w
closed (opened tag w around) = on_fields (nested tag w) around

-- The tags of the fields of a message, and of those given in the innermost message. A field that is still open is not among them.
unfoldable pub tags_of : Tree → List ℕ
tags_of w = map item_tag (items w)

unfoldable pub tags_given : Given → List ℕ
tags_given (message w) = tags_of w
tags_given (opened tag w around) = tags_of w

-- How many message fields are open.
unfoldable pub open_fields : Given → ℕ
open_fields (message w) = 0
open_fields (opened tag w around) = suc (open_fields around)

-- The number of the innermost message under a table, where the outermost message has this number.
unfoldable pub innermost : Schema → ℕ → Given → ℕ
innermost sc number (message w) = number
innermost sc number (opened tag w around) = inner_of (sc.means (innermost sc number around) tag)
