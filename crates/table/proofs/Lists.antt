-- Laws of the first n words of a list, as a loop over them reads them.
use Prim.Native.Nat.{ℕ, ◌+◌, ◌≤◌, ◌<◌}
use native.Mathlib.Omega.{arith}
use mathlib.Core.Path.{◌≡◌}
use mathlib.Core.List.{List, [], ◌∷◌}
use lib.ListN.{length, take, drop, get_or}
use Rattle.std.proofs.lemmas.List.{drop_all, drop_more, get_or-take, length-take-le}

-- The first n words without i of them: the word at i, and the rest.
pub rest_at : (words : List ℕ) (n i : ℕ) → n ≤ length words → i < n → drop i (take n words) ≡ get_or words i 0 ∷ drop (i + 1) (take n words)
rest_at words n i h l = rw (← get_or-take n words i 0 l) (drop_more (take n words) i 0 (omega (arith, length-take-le n words h)))

-- At the end nothing remains.
pub rest_end : (words : List ℕ) (n i : ℕ) → n ≤ length words → n ≤ i → drop i (take n words) ≡ []
rest_end words n i h l = drop_all i (take n words) (omega (arith, length-take-le n words h))
