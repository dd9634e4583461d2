-- What is wrong with a message that is not whole, without saying how it is read: its first fault (document 01, Refusal numbers). A field's
-- parts come in the order of its octets, and in each part a missing octet before a bad one.
use Rattle.std.specs.Prelude.{ℕ, ◌/◌, ◌%◌, ◌≤◌, ◌<◌, ◌≡◌, true, List, [], ◌∷◌, ◌++◌, length, T}
use Rattle.octets.specs.Number.{big_endian}
use Rattle.reading.specs.Refusals as refusals
use Rattle.tib_field.specs.WrongName.{WrongNamed}
use Rattle.tib_field.specs.FirstFault as messages
use Rattle.tib_msg_field.specs.Layout.{kind, hinted, size_width, size_allowed, Hint, octets, Allowed, magic}

-- A good type octet: two bits clear, a type that there is, and the bit for a hint where the type is an array or a partial.
pub record TypeOctet (c : ℕ) : Type 0 where
  pub clear : c / 16 % 4 ≡ 0
  pub known : kind c ≤ 10
  pub array : kind c ≡ 8 → hinted c ≡ true
  pub partial : kind c ≡ 9 → hinted c ≡ true

-- Each type below has the refusal, and the octets from the part on to the end of the message.

-- A hint after data of a size: its first two octets are not both there, no hint begins with them, or its value ends too early.
pub data WrongHint (kind size : ℕ) : ℕ → List ℕ → Type 0 where
  cut : (s : List ℕ) → length s < 2 → WrongHint kind size refusals.cut s
  bad : (t n : ℕ) (s : List ℕ) → ((more : List ℕ) → Hint kind size true (t ∷ n ∷ more) → ⊥) → WrongHint kind size refusals.type_size_or_hint (t ∷ n ∷ s)
  value_cut : (t n : ℕ) (s missing : List ℕ) → 1 ≤ length missing → Hint kind size true (t ∷ n ∷ (s ++ missing)) → WrongHint kind size refusals.cut (t ∷ n ∷ s)

-- The data, which are announced to be `size` octets: they end too early, or the hint after them is wrong.
pub data WrongData (octet size : ℕ) : ℕ → List ℕ → Type 0 where
  cut : (s : List ℕ) → length s < size → WrongData octet size refusals.past_the_end s
  hint : (k : ℕ) (contents s : List ℕ) → length contents ≡ size → hinted octet ≡ true → WrongHint (kind octet) size k s
      → WrongData octet size k (contents ++ s)

pub data WrongSize (octet : ℕ) : ℕ → List ℕ → Type 0 where
  cut : (s : List ℕ) → length s < size_width octet → WrongSize octet refusals.cut s
  bad : (size s : List ℕ) → length size ≡ size_width octet → (T (size_allowed (kind octet) (big_endian size)) → ⊥) → WrongSize octet refusals.type_size_or_hint (size ++ s)
  later : (k : ℕ) (size s : List ℕ) → length size ≡ size_width octet → T (size_allowed (kind octet) (big_endian size))
      → WrongData octet (big_endian size) k s → WrongSize octet k (size ++ s)

pub data WrongType : ℕ → List ℕ → Type 0 where
  missing : WrongType refusals.cut []
  bad : (octet : ℕ) (s : List ℕ) → (TypeOctet octet → ⊥) → WrongType refusals.type_size_or_hint (octet ∷ s)
  later : (k octet : ℕ) (s : List ℕ) → TypeOctet octet → WrongSize octet k s → WrongType k (octet ∷ s)

-- A field, which begins with the size of its name.
abbrev pub WrongField : ℕ → List ℕ → Type 0
WrongField k s = WrongNamed WrongType k s

-- The first fault of octets, by its number and its place.
abbrev pub FirstFault : List ℕ → ℕ → ℕ → Type 0
FirstFault s k p = messages.FirstFault magic octets Allowed WrongField s k p
