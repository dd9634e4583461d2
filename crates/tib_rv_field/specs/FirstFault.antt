-- What is wrong with a message that is not whole, without saying how it is read: its first fault (document 01, Refusal numbers). A field's
-- parts come in the order of its octets, and in each part a missing octet before a bad one.
use Rattle.std.specs.Prelude.{ℕ, suc, ◌+◌, ◌≤◌, ◌<◌, ◌≡◌, List, [], ◌∷◌, ◌++◌, length}
use Rattle.octets.specs.Number.{big_endian}
use Rattle.reading.specs.Reading.{message_limit, depth_limit}
use Rattle.reading.specs.Refusals as refusals
use Rattle.tib_field.specs.Name.{Name}
use Rattle.tib_field.specs.WrongName.{WrongNamed}
use Rattle.tib_rv_field.specs.Layout.{Parts, octets, Size, Leaf, holder, magic, Fields, message, depth, Header, Allowed}

-- The octets of a size of any count.
pub data SizeOctets : List ℕ → Type 0 where
  one : (m : ℕ) → m ≤ 0x78 → SizeOctets (m ∷ [])
  two : (s : List ℕ) → length s ≡ 2 → SizeOctets (0x79 ∷ s)
  four : (s : List ℕ) → length s ≡ 4 → SizeOctets (0x7a ∷ s)

-- A good size in a field with a type octet, and how many octets of data it announces: type 1 uses `7a`.
pub record Announces (octet : ℕ) (size : List ℕ) (n : ℕ) : Type 0 where
  pub counts : Size size n
  pub long : octet ≡ 1 → (s : List ℕ) × (size ≡ 0x7a ∷ s)

-- Each type below has the refusal, and the octets from the part on to the end of the message.

-- A size and the data after it: the size ends too early; it begins with another marker; it counts less than itself, or type 1 does not use
-- `7a`; or the data end too early.
pub data WrongSize (octet : ℕ) : ℕ → List ℕ → Type 0 where
  cut : (s missing : List ℕ) → 1 ≤ length missing → SizeOctets (s ++ missing) → WrongSize octet refusals.cut s
  marker : (m : ℕ) (s : List ℕ) → 0x7a < m → WrongSize octet refusals.type_size_or_hint (m ∷ s)
  bad : (size s : List ℕ) → SizeOctets size → ((n : ℕ) → Announces octet size n → ⊥) → WrongSize octet refusals.type_size_or_hint (size ++ s)
  data_cut : (n : ℕ) (size s : List ℕ) → Announces octet size n → length s < n → WrongSize octet refusals.past_the_end (size ++ s)

-- Every type octet is read.
pub data WrongType : ℕ → List ℕ → Type 0 where
  missing : WrongType refusals.cut []
  later : (k octet : ℕ) (s : List ℕ) → WrongSize octet k s → WrongType k (octet ∷ s)

-- A field, which begins with the size of its name.
abbrev pub WrongField : ℕ → List ℕ → Type 0
WrongField k s = WrongNamed WrongType k s

-- The header of a message.
pub data WrongHeader (s : List ℕ) : ℕ → Type 0 where
  cut : length s < 8 → WrongHeader s refusals.cut
  other_mark : (size mark rest : List ℕ) → s ≡ size ++ (mark ++ rest) → length size ≡ 4 → length mark ≡ 4 → (mark ≡ magic → ⊥) → WrongHeader s refusals.magic
  other_size : (size rest : List ℕ) → s ≡ size ++ (magic ++ rest) → length size ≡ 4 → (big_endian size ≡ length s → ⊥) → WrongHeader s refusals.size

-- A header that is good, and the octets of the fields after it.
pub record Opens (s fields : List ℕ) : Type 0 where
  pub size : List ℕ
  pub divides : s ≡ size ++ (magic ++ fields)
  pub width : length size ≡ 4
  pub counted : big_endian size ≡ length s

-- A field of type 1: the first four of its contents count the contents. The contents may be a message or not.
pub record Holder (name contents : List ℕ) : Type 0 where
  pub good : Name name
  pub size : List ℕ
  pub rest : List ℕ
  pub divides : contents ≡ size ++ rest
  pub width : length size ≡ 4
  pub counted : big_endian size ≡ length contents

-- The first fault in the fields of a message that may be `levels` messages deep, itself counted: its number, and its place from the first of
-- these octets on. It is here, at the first field; over a field that holds no message; past a field whose message is good; or in a field of
-- type 1 that holds a message too deep, one with a wrong header, which is then the place, or one with a fault in its fields. What such a field
-- holds begins after its name's size, its name, the type and the marker.
pub data FaultIn : ℕ → List ℕ → ℕ → ℕ → Type 0 where
  here : (levels k : ℕ) (s : List ℕ) → WrongField k s → FaultIn levels s k 0
  over : (levels k p : ℕ) (f : Parts) (s : List ℕ) → Leaf f → FaultIn levels s k p → FaultIn levels (octets f ++ s) k (length (octets f) + p)
  past : (levels k p : ℕ) (name size : List ℕ) (inside : Fields) (s : List ℕ) → Name name → Header size inside → Allowed inside
      → suc (depth inside) ≤ levels → FaultIn levels s k p
      → FaultIn levels (octets (holder name (message size inside)) ++ s) k (length (octets (holder name (message size inside))) + p)
  too_deep : (name contents s : List ℕ) → Holder name contents → FaultIn 1 (octets (holder name contents) ++ s) refusals.too_deep 0
  header : (levels k : ℕ) (name contents s : List ℕ) → 1 ≤ levels → Holder name contents → WrongHeader contents k
      → FaultIn (suc levels) (octets (holder name contents) ++ s) k (3 + length name)
  inside : (levels k p : ℕ) (name contents fields s : List ℕ) → 1 ≤ levels → Name name → Opens contents fields → FaultIn levels fields k p
      → FaultIn (suc levels) (octets (holder name contents) ++ s) k (3 + length name + 8 + p)

-- The first fault of octets, by its number and its place.
pub data FirstFault (s : List ℕ) : ℕ → ℕ → Type 0 where
  too_long : message_limit < length s → FirstFault s refusals.too_long 0
  header : (k : ℕ) → length s ≤ message_limit → WrongHeader s k → FirstFault s k 0
  fields : (k p : ℕ) (rest : List ℕ) → length s ≤ message_limit → Opens s rest → FaultIn depth_limit rest k p → FirstFault s k (8 + p)
