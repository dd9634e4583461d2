-- The record at an offset, by the octets that are read one by one.
use Prim.Native.Nat.{ℕ, suc, ◌+◌, ◌≤◌}
use native.Mathlib.Numerals.{add-one}
use native.Mathlib.Omega.{arith}
use mathlib.Core.Path.{◌≡◌, refl}
use mathlib.Core.List.{List, [], ◌∷◌}
use Rattle.std.specs.Int.{w16, from_be_bytes}
use lib.ListN.{length, take, drop, get_or}
use lib.Seq.{drop-cons, drop-drop, get_or-drop}
use Rattle.octets.specs.Number.{big_endian}
use Rattle.tib_dictionary.specs.Load.{entry_of}

-- Two octets as a number.
pub two_read : (s : List ℕ) (at n : ℕ) → at + 2 ≤ length s → n ≡ from_be_bytes w16 (get_or s at 0 ∷ get_or s (at + 1) 0 ∷ []) → n ≡ big_endian (take 2 (drop at s))
unfolding big_endian
two_read s at n h e = rw (drop-cons s at 0 (omega arith), drop-cons s (suc at) 0 (omega arith), ← add-one at) (omega (arith, e))

module _ (s : List ℕ) (at : ℕ) where
  pub entry_read : (fid kind size : ℕ) → fid ≡ big_endian (take 2 (drop (at + 3) s)) → kind ≡ get_or s (at + 5) 0 → size ≡ big_endian (take 2 (drop (at + 6) s))
      → record { fid = fid; kind = kind; size = size } ≡ entry_of (drop at s)
  unfolding entry_of
  entry_read fid kind size p q r = rw (p, q, r, drop-drop 3 at s, drop-drop 6 at s, get_or-drop at s 5 0) refl
