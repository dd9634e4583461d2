-- The text of a value by its kind.
use mathlib.Core.Path.{◌≡◌, refl}
use mathlib.Core.List.{List, []}
use Prim.Native.Nat.{ℕ}
use Rattle.table.specs.declared.Meaning.{Meaning}
use Rattle.table.specs.declared.Meaning.TheVariants.{Raw, Uint, Int, String, Text, Message}
use Rattle.message.specs.Tree.{value}
use Rattle.text_window.specs.Ascii.{ascii}
use Rattle.text_window.specs.Digits.{hex_or_dash}
use Rattle.text_message.specs.Text.{kind_name, value_text}

-- The name of a kind is that of each value of it.
pub name_is : (k : Meaning) (s : List ℕ) → kind_name (value k []) ≡ kind_name (value k s)
unfolding kind_name value
name_is Raw s = refl
name_is Uint s = refl
name_is Int s = refl
name_is String s = refl
name_is Text s = refl
name_is (Message m) s = refl

-- The kinds that are no numbers.
pub octets_text : (k : Meaning) (s : List ℕ) → (k ≡ Uint → ⊥) → (k ≡ Int → ⊥) → hex_or_dash s ≡ value_text (value k s)
unfolding value_text value
octets_text Raw s u i = refl
octets_text Uint s u i = absurd (u refl)
octets_text Int s u i = absurd (i refl)
octets_text String s u i = refl
octets_text Text s u i = refl
octets_text (Message m) s u i = refl

-- The kinds whose name is `raw`.
pub raw_name : (k : Meaning) → (k ≡ Uint → ⊥) → (k ≡ Int → ⊥) → (k ≡ String → ⊥) → (k ≡ Text → ⊥) → ascii "raw" ≡ kind_name (value k [])
unfolding kind_name value
raw_name Raw u i s t = refl
raw_name Uint u i s t = absurd (u refl)
raw_name Int u i s t = absurd (i refl)
raw_name String u i s t = absurd (s refl)
raw_name Text u i s t = absurd (t refl)
raw_name (Message m) u i s t = refl
