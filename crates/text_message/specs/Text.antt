-- The text of a message, field by field, and of a refusal.
use Rattle.std.specs.Prelude.{ℕ, suc, cond, List, [], ◌++◌, length, eqb}
use Rattle.table.specs.Schema.{schema}
use Rattle.table.specs.declared.Table.{Table}
use Rattle.message.specs.Cut.{Cut}
use Rattle.message.specs.Tree.{Value, raw, uint, int, string, text, Tree, end, leaf, nested, tree, fields}
use Rattle.message.specs.Items.{items}
use Rattle.reading.specs.Reading.{Reading, accepted, refused}
use Rattle.message.specs.Reading.{reading}
use Rattle.message_calls.specs.Check.{check}
use Rattle.text_window.specs.Ascii.{ascii}
use Rattle.text_window.specs.Digits.{decimal, signed_decimal, four_digits, hex_or_dash}

-- The name of a value's kind.
unfoldable pub kind_name : Value → List ℕ
kind_name (raw s) = ascii "raw"
kind_name (uint v) = ascii "uint"
kind_name (int z) = ascii "int"
kind_name (string s) = ascii "string"
kind_name (text s) = ascii "text"

-- The text of a value: numbers in decimal, octets in hex.
unfoldable pub value_text : Value → List ℕ
value_text (raw s) = hex_or_dash s
value_text (uint v) = decimal v
value_text (int z) = signed_decimal z
value_text (string s) = hex_or_dash s
value_text (text s) = hex_or_dash s

-- The start of a field's line, up to its value: the depth of its message, its tag and its kind.
unfoldable pub line_start : ℕ → ℕ → List ℕ → List ℕ
line_start depth tag kind = decimal depth ++ ascii " " ++ four_digits tag ++ ascii " " ++ kind ++ ascii " "

-- A field's line.
unfoldable pub line : ℕ → ℕ → List ℕ → List ℕ → List ℕ
line depth tag kind value = line_start depth tag kind ++ value ++ ascii "\n"

-- The count of a message's direct fields, without those of nested messages.
unfoldable pub direct : Tree → ℕ
direct t = length (items t)

-- The lines of a message at a depth. A nested message's own lines follow its line.
unfoldable pub lines : ℕ → Tree → List ℕ
lines depth end = []
lines depth (leaf tag v rest) = line depth tag (kind_name v) (value_text v) ++ lines depth rest
lines depth (nested tag inside rest) =
    line depth tag (ascii "message") (decimal (direct inside)) ++ lines (suc depth) inside ++ lines depth rest

-- The whole text: the heading, the lines of a message, and a last line with the count of its fields at all depths and of its octets.
unfoldable pub page : List ℕ → ℕ → ℕ → List ℕ
page body count size =
    ascii "depth tag kind value\n" ++ body ++ ascii "fields " ++ decimal count ++ ascii " octets " ++ decimal size ++ ascii "\n"

-- The text of a message with a given tree and a given length in octets.
unfoldable pub shown : Tree → ℕ → List ℕ
shown t size = page (lines 1 t) (fields t) size

-- The text of a refusal.
unfoldable pub refusal_text : ℕ → ℕ → List ℕ
refusal_text refusal place = ascii "refused " ++ decimal refusal ++ ascii " at " ++ decimal place ++ ascii "\n"

-- The text of a message by the result of reading it under revision 2.
unfoldable pub read_text : Table → List ℕ → Reading Cut → List ℕ
read_text t message (accepted cut) = shown (tree (schema 2 t) 0 cut) (length message)
read_text t message (refused refusal place) = refusal_text refusal place

-- The text of a message with number 0 under revision 2, or of the refusal of its check.
unfoldable pub message_text : Table → List ℕ → List ℕ
message_text t message =
    let c = check t 2 0 message in
    cond (eqb c.refusal 0) (read_text t message (reading (schema 2 t) 0 message)) (refusal_text c.refusal c.place)
