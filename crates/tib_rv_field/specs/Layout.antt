-- What a TibrvMsg message is, independent of any way to read it: a header, and fields joined, each as the layout allows, with a division
-- of its message for each field of type 1.
use Rattle.std.specs.Prelude.{ℕ, suc, ◌+◌, ◌≤◌, max, ◌≡◌, List, [], ◌∷◌, ◌++◌, length}
use Rattle.octets.specs.Number.{big_endian}
use Rattle.reading.specs.Reading.{message_limit, depth_limit}
use Rattle.tib_field.specs.Name.{Name}

-- A field, part by part in the order of its octets. The octet before the name, its size, is left out.
pub record Parts : Type 0 where
  pub name : List ℕ
  pub octet : ℕ
  pub size : List ℕ
  pub contents : List ℕ

unfoldable pub octets : Parts → List ℕ
octets f = length f.name ∷ (f.name ++ (f.octet ∷ (f.size ++ f.contents)))

-- The octets of a size, and how many octets of data they announce. `01` to `78` count themselves; `00` would not, and is no size. After `79`
-- two octets and after `7a` four count themselves and not the marker.
pub data Size : List ℕ → ℕ → Type 0 where
  one : (n : ℕ) → suc n ≤ 0x78 → Size (suc n ∷ []) n
  two : (s : List ℕ) (n : ℕ) → length s ≡ 2 → big_endian s ≡ 2 + n → Size (0x79 ∷ s) n
  four : (s : List ℕ) (n : ℕ) → length s ≡ 4 → big_endian s ≡ 4 + n → Size (0x7a ∷ s) n

-- A field that holds no message.
pub record Leaf (f : Parts) : Type 0 where
  pub name : Name f.name
  pub plain : f.octet ≡ 1 → ⊥
  pub size : Size f.size (length f.contents)

-- A field of type 1. It uses `7a`, and the four octets of its size are the first of the message that it holds.
abbrev pub holder : List ℕ → List ℕ → Parts
holder name message = record { name = name; octet = 1; size = 0x7a ∷ []; contents = message }

abbrev pub magic : List ℕ
magic = 0x99 ∷ 0x55 ∷ 0xee ∷ 0xaa ∷ []

-- The fields of a message from the left. A field of type 1 has its name, the size octets of its message and the division of that.
pub data Fields : Type 0 where
  end : Fields
  leaf : Parts → Fields → Fields
  nested : List ℕ → List ℕ → Fields → Fields → Fields

-- The octets of fields. A message is its size, the magic number and its fields.
unfoldable pub joined : Fields → List ℕ
joined end = []
joined (leaf f rest) = octets f ++ joined rest
joined (nested name size inside rest) = octets (holder name (size ++ (magic ++ joined inside))) ++ joined rest

unfoldable pub message : List ℕ → Fields → List ℕ
message size fields = size ++ (magic ++ joined fields)

-- The depth of the deepest message; a message with no nested ones has depth 1.
unfoldable pub depth : Fields → ℕ
depth end = 1
depth (leaf f rest) = depth rest
depth (nested name size inside rest) = max (suc (depth inside)) (depth rest)

-- The size of a message takes four octets and counts the whole message, its header too.
pub record Header (size : List ℕ) (fields : Fields) : Type 0 where
  pub width : length size ≡ 4
  pub counted : big_endian size ≡ length (message size fields)

-- Every field, at all depths, is as the layout allows.
unfoldable pub Allowed : Fields → Type 0
Allowed end = Unit {0}
Allowed (leaf f rest) = Leaf f × Allowed rest
Allowed (nested name size inside rest) = (Name name × Header size inside × Allowed inside) × Allowed rest

-- A whole message, at most 65,536 octets long and 8 messages deep, and its division into fields.
pub record Whole (s : List ℕ) (fields : Fields) : Type 0 where
  pub size : List ℕ
  pub divides : s ≡ message size fields
  pub header : Header size fields
  pub allowed : Allowed fields
  pub shallow : depth fields ≤ depth_limit
  pub within_limit : length s ≤ message_limit
