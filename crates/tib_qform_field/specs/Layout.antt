-- What a QForm message is under the entries of a dictionary, independent of any way to read it: a header, and fields joined, each as the layout
-- allows (document 004, SASS QForm message format, and document 02, item 1).
use Rattle.std.specs.Prelude.{ℕ, ◌+◌, ◌*◌, ◌/◌, ◌%◌, ◌≡◌, Bool, true, List, [], ◌∷◌, ◌++◌, length, eqb}
use Rattle.std.proofs.Math.Option.{some}
use Rattle.tib_field.specs.Whole.{WholeMessage}
use Rattle.tib_dictionary.specs.Entry.{find}
use Rattle.tib_dictionary.specs.declared.Entry.{Entry}

-- A field begins with a FID of two octets. Its two top bits are flags, FIXED (`80` of the first octet) and PRIMITIVE (`40`), and both are set.
unfoldable pub flagged : ℕ → Bool
flagged high = eqb (high / 64) 3

-- Its low 14 bits are the fid.
unfoldable pub fid : ℕ → ℕ → ℕ
fid high low = high % 64 * 256 + low

-- A field, part by part in the order of its octets: the two octets of its FID, its data, and its padding.
pub record Parts : Type 0 where
  pub high : ℕ
  pub low : ℕ
  pub contents : List ℕ
  pub padding : List ℕ

unfoldable pub octets : Parts → List ℕ
octets f = f.high ∷ f.low ∷ (f.contents ++ f.padding)

unfoldable pub fid_of : Parts → ℕ
fid_of f = fid f.high f.low

-- A field that the layout allows: the dictionary has its fid, and its data have the size of the entry. Data of odd size are followed by one octet
-- of any value.
pub record Allowed (es : List Entry) (f : Parts) : Type 0 where
  pub flags : flagged f.high ≡ true
  pub entry : Entry
  pub known : find es (fid_of f) ≡ some entry
  pub size : length f.contents ≡ entry.size
  pub padded : length f.padding ≡ entry.size % 2

-- The first octets of every message.
abbrev pub magic : List ℕ
magic = 0x11 ∷ 0x11 ∷ 0x11 ∷ 0x12 ∷ []

-- A whole message and its division into fields.
abbrev pub Whole : List Entry → List ℕ → List Parts → Type 0
Whole es s fs = WholeMessage magic octets (Allowed es) s fs
