-- What a control part is (document 01, An hproto field), without saying how it is read: a control octet, then the octets of the tag, then
-- those of the length.
use Rattle.std.specs.Prelude.{ℕ, ◌+◌, ◌*◌, ◌<◌, ◌≡◌, List, [], ◌∷◌, ◌++◌, length, get_or}
use Rattle.octets.specs.Number.{big_endian}

-- How a number is coded. A lead below `direct` is the number itself. The lead `direct + i` says that the number follows in as many octets
-- as `widths` has at i.
pub record Code : Type 0 where
  pub direct : ℕ
  pub widths : List ℕ

-- A tag from 0 to d is direct; e means that one octet follows with the tag, f two.
abbrev pub tag_code : Code
tag_code = record { direct = 14; widths = 1 ∷ 2 ∷ [] }

-- A length from 0 to b is direct; c, d, e, f mean that 1, 2, 4, 8 octets follow with it.
abbrev pub length_code : Code
length_code = record { direct = 12; widths = 1 ∷ 2 ∷ 4 ∷ 8 ∷ [] }

-- A lead, and the octets that follow it, stand for the number v. Every lead that has room for the number is a form of it: forms longer
-- than needed are legal.
pub data Form (code : Code) (v : ℕ) : ℕ → List ℕ → Type 0 where
  direct : v < code.direct → Form code v v []
  follows : (i : ℕ) (s : List ℕ) → i < length code.widths → length s ≡ get_or code.widths i 0 → big_endian s ≡ v
      → Form code v (code.direct + i) s

-- A control part of a tag and a length. The left nybble of the control octet is the tag's lead, the right nybble the length's: both are
-- below 16, as every lead of these codes is.
pub record ControlPart (tag len : ℕ) (part : List ℕ) : Type 0 where
  pub tag_lead : ℕ
  pub length_lead : ℕ
  pub tag_octets : List ℕ
  pub length_octets : List ℕ
  pub is : part ≡ (tag_lead * 16 + length_lead) ∷ tag_octets ++ length_octets
  pub tag_form : Form tag_code tag tag_lead tag_octets
  pub length_form : Form length_code len length_lead length_octets
