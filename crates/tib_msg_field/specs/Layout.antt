-- What a TibMsg message is, independent of any way to read it: a header, and fields joined, each as the layout allows.
use Rattle.std.specs.Prelude.{ℕ, ◌/◌, ◌%◌, ◌≤◌, ◌≡◌, Bool, true, false, cond, ◌||◌, List, [], ◌∷◌, ◌++◌, length, T, eqb}
use Rattle.octets.specs.Number.{big_endian}
use Rattle.tib_field.specs.Name.{Name}
use Rattle.tib_field.specs.Whole.{WholeMessage}

-- The type octet. Its low four bits are the type.
unfoldable pub kind : ℕ → ℕ
kind c = c % 16

-- `40` means a hint.
unfoldable pub hinted : ℕ → Bool
hinted c = eqb (c / 64 % 2) 1

-- `80` means a size of four octets, otherwise one.
unfoldable pub size_width : ℕ → ℕ
size_width c = cond (eqb (c / 128 % 2) 1) 4 1

-- 1, 2, 4 or 8 octets.
unfoldable pub is_width : ℕ → Bool
is_width n = eqb n 1 || eqb n 2 || eqb n 4 || eqb n 8

-- The sizes of data that a type allows: 5 and 6 are whole numbers, 7 is a real.
unfoldable pub size_allowed : ℕ → ℕ → Bool
size_allowed kind n = cond (eqb kind 5 || eqb kind 6) (is_width n) (cond (eqb kind 7) (eqb n 4 || eqb n 8) true)

-- The octets that a type, with data of a size, and with the bit for a hint set or not, allows after the data. Type 8 is an array, whose
-- hint is the type and the size of its elements. Type 9 is a partial, whose hint is an offset.
pub data Hint (kind size : ℕ) : Bool → List ℕ → Type 0 where
  none : (kind ≡ 8 → ⊥) → (kind ≡ 9 → ⊥) → Hint kind size false []
  array : (t n : ℕ) → kind ≡ 8 → 4 ≤ t → t ≤ 7 → T (is_width n) → size % n ≡ 0 → Hint kind size true (t ∷ n ∷ [])
  partial : (n : ℕ) → kind ≡ 9 → Hint kind size true (6 ∷ n ∷ [])
  value : (t : ℕ) (s : List ℕ) → (kind ≡ 8 → ⊥) → (kind ≡ 9 → ⊥) → 5 ≤ t → t ≤ 6 → T (is_width (length s))
      → Hint kind size true (t ∷ length s ∷ s)

-- A field, part by part in the order of its octets. The octet before the name, its size, is left out.
pub record Parts : Type 0 where
  pub name : List ℕ
  pub octet : ℕ
  pub size : List ℕ
  pub contents : List ℕ
  pub hint : List ℕ

unfoldable pub octets : Parts → List ℕ
octets f = length f.name ∷ (f.name ++ (f.octet ∷ (f.size ++ (f.contents ++ f.hint))))

-- A field that the layout allows. The bits `10` and `20` of the type octet are clear.
pub record Allowed (f : Parts) : Type 0 where
  pub name : Name f.name
  pub clear : f.octet / 16 % 4 ≡ 0
  pub known : kind f.octet ≤ 10
  pub width : length f.size ≡ size_width f.octet
  pub size : big_endian f.size ≡ length f.contents
  pub contents : T (size_allowed (kind f.octet) (length f.contents))
  pub hint : Hint (kind f.octet) (length f.contents) (hinted f.octet) f.hint

-- The first octets of every message: the magic number and the version.
abbrev pub magic : List ℕ
magic = 0xce ∷ 0x13 ∷ 0xaa ∷ 0x1f ∷ 0x01 ∷ []

-- A whole message and its division into fields.
abbrev pub Whole : List ℕ → List Parts → Type 0
Whole s fs = WholeMessage magic octets Allowed s fs
