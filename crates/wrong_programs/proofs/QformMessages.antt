-- Dictionaries and QForm messages of few octets.
use Prim.Native.Nat.{ℕ}
use mathlib.Core.List.{List, [], ◌∷◌, ◌++◌}
use lib.ListN.{length}

-- A record for the fid 0 to 255, with a type and a size up to 255.
unfoldable pub entry : ℕ → ℕ → ℕ → List ℕ
entry fid type size = 2 ∷ 0 ∷ 5 ∷ 0 ∷ fid ∷ type ∷ 0 ∷ size ∷ []

-- The fid 1 has three octets of data, and so one of padding; the fid 2 has four.
unfoldable pub odd_and_even : List ℕ
unfolding entry
odd_and_even = entry 1 2 3 ++ entry 2 1 4

-- The fids 1 and 2 have no data.
unfoldable pub empty_data : List ℕ
unfolding entry
empty_data = entry 1 2 0 ++ entry 2 1 0

-- The fid 1 has two octets of data.
unfoldable pub short_data : List ℕ
unfolding entry
short_data = entry 1 2 2

-- A header before the octets of fields, and a field of a fid with both flags.
unfoldable pub message : List ℕ → List ℕ
message s = 0x11 ∷ 0x11 ∷ 0x11 ∷ 0x12 ∷ 0 ∷ 0 ∷ 0 ∷ length s ∷ s

unfoldable pub field : ℕ → List ℕ → List ℕ
field fid s = 0xc0 ∷ fid ∷ s

-- The fid 1 and then the fid 2, without data.
unfoldable pub two_fids : List ℕ
unfolding message field
two_fids = message (field 1 (field 2 []))
