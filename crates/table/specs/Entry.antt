-- Entries of a field table, and the kind of a tag under them.
use Rattle.std.specs.Prelude.{ℕ, ◌/◌, ◌%◌, ◌^◌, Bool, false, cond, ◌&&◌, List, [], ◌∷◌, map, take, eqb}
use Rattle.table.specs.declared.Meaning.{Meaning}
use Rattle.table.specs.declared.Meaning.TheVariants.{Raw, Uint, Int, String, Text, Message}
use Rattle.table.specs.declared.Table.{Table}

-- In messages of this number, this tag has this kind. If the kind is message, `inner` is the nested message's number. The mark is 0 for a
-- field that may be repeated, and 1 for a single one.
pub record Entry : Type 0 where
  pub number : ℕ
  pub tag : ℕ
  pub kind : ℕ
  pub inner : ℕ
  pub mark : ℕ

-- The numbers of the kinds: 1 uint, 2 int, 3 string, 4 text, 5 message. The loader rejects any other number; here it gives raw.
unfoldable pub meaning : Entry → Meaning
meaning e =
    cond (eqb e.kind 1) Uint
    (cond (eqb e.kind 2) Int
    (cond (eqb e.kind 3) String
    (cond (eqb e.kind 4) Text
    (cond (eqb e.kind 5) (Message e.inner) Raw))))

-- The number of a kind; 0 for raw.
unfoldable pub kind_number : Meaning → ℕ
kind_number Raw = 0
kind_number Uint = 1
kind_number Int = 2
kind_number String = 3
kind_number Text = 4
kind_number (Message m) = 5

-- The number of the nested message; 0 for other kinds.
unfoldable pub inner_of : Meaning → ℕ
inner_of Raw = 0
inner_of Uint = 0
inner_of Int = 0
inner_of String = 0
inner_of Text = 0
inner_of (Message m) = m

-- The kind of a tag in messages of a number: that of the first entry for both, or raw.
unfoldable pub find : List Entry → ℕ → ℕ → Meaning
find [] number tag = Raw
find (e ∷ es) number tag = cond (eqb e.number number && eqb e.tag tag) (meaning e) (find es number tag)

-- Whether the first entry for a message number and a tag is marked single.
unfoldable pub marked_single : List Entry → ℕ → ℕ → Bool
marked_single [] number tag = false
marked_single (e ∷ es) number tag = cond (eqb e.number number && eqb e.tag tag) (eqb e.mark 1) (marked_single es number tag)

-- The entry in a word of a table.
unfoldable pub entry : ℕ → Entry
entry w =
    record {
      number = w / 2 ^ 40;
      tag = w / 2 ^ 24 % 2 ^ 16;
      kind = w / 2 ^ 16 % 2 ^ 8;
      inner = w / 2 ^ 8 % 2 ^ 8;
      mark = w % 2 ^ 8;
    }

-- The entries of a table.
unfoldable pub entries : Table → List Entry
entries t = map entry (take t.count t.words)
