-- Text is UTF-8. This is the grammar of RFC 3629, section 4, without saying how text is read.
use Rattle.std.specs.Prelude.{ℕ, ◌≤◌, List, [], ◌∷◌, ◌++◌, ◌⊎◌}

-- A range of octets.
pub record Range : Type 0 where
  pub low : ℕ
  pub high : ℕ

infix 90 ◌to◌
abbrev pub ◌to◌ : ℕ → ℕ → Range
low to high = record { low = low; high = high }

-- The RFC's UTF8-tail.
abbrev pub tail : Range
tail = 0x80 to 0xbf

-- The RFC's UTF8-char, from UTF8-1 to UTF8-4: a row for each alternative, with the ranges of its octets.
unfoldable pub grammar : List (List Range)
grammar =
    (0x00 to 0x7f ∷ [])
    ∷ (0xc2 to 0xdf ∷ tail ∷ [])
    ∷ (0xe0 to 0xe0 ∷ 0xa0 to 0xbf ∷ tail ∷ [])
    ∷ (0xe1 to 0xec ∷ tail ∷ tail ∷ [])
    ∷ (0xed to 0xed ∷ 0x80 to 0x9f ∷ tail ∷ [])
    ∷ (0xee to 0xef ∷ tail ∷ tail ∷ [])
    ∷ (0xf0 to 0xf0 ∷ 0x90 to 0xbf ∷ tail ∷ tail ∷ [])
    ∷ (0xf1 to 0xf3 ∷ tail ∷ tail ∷ tail ∷ [])
    ∷ (0xf4 to 0xf4 ∷ 0x80 to 0x8f ∷ tail ∷ tail ∷ [])
    ∷ []

-- As many octets as ranges, each in its range.
unfoldable pub Fits : List Range → List ℕ → Type 0
Fits [] [] = Unit {0}
Fits [] (x ∷ s) = ⊥
Fits (r ∷ rs) [] = ⊥
Fits (r ∷ rs) (x ∷ s) = ((r.low ≤ x) × (x ≤ r.high)) × Fits rs s

-- The octets fit one of the rows.
unfoldable pub FitsOne : List (List Range) → List ℕ → Type 0
FitsOne [] s = ⊥
FitsOne (row ∷ rows) s = Fits row s ⊎ FitsOne rows s

-- Text, the RFC's UTF8-octets: characters one after the other, each of which fits a row.
pub data IsText : List ℕ → Type 0 where
  none : IsText []
  more : (character rest : List ℕ) → FitsOne grammar character → IsText rest → IsText (character ++ rest)
