-- Steps of the loop over the marks of a state, and the message numbers of a state.
use Prim.Native.Nat.{ℕ, ◌+◌, ◌≤◌, ◌<◌}
use mathlib.Core.Path.{◌≡◌, refl, ap}
use mathlib.Core.Bool.{false, ◌&&◌}
use mathlib.Core.List.{List, [], ◌∷◌}
use lib.ListN.{length, drop, get_or}
use lib.Dec.{leb}
use borrow.Author.Tests.{le-leb, lt-leb}
use Rattle.std.proofs.Common.{drop-cons, add-one}
use Rattle.std.specs.List.{list_all}
use Rattle.writer_state.specs.Sound.{falling, small}

module _ (marks : List ℕ) (i : ℕ) where
  abbrev M : ℕ
  M = get_or marks i 0

  pub fall_low : (low high : ℕ) → i < length marks → M < low → falling low high (drop i marks) ≡ false
  unfolding falling
  fall_low low high l h = rw (drop-cons marks i 0 l, lt-leb low M h) refl

  pub fall_high : (low high : ℕ) → i < length marks → low ≤ M → high < M → falling low high (drop i marks) ≡ false
  unfolding falling
  fall_high low high l h k = rw (drop-cons marks i 0 l, le-leb low M h, lt-leb M high k) refl

  pub fall_moves : (low high : ℕ) → i < length marks → low ≤ M → M ≤ high → falling low high (drop i marks) ≡ falling low M (drop (i + 1) marks)
  unfolding falling
  fall_moves low high l h k = rw (drop-cons marks i 0 l, le-leb low M h, le-leb M high k) (rw add-one refl)

pub all_small : (ns : List ℕ) → list_all (λ n. leb n 15) ns ≡ small ns
unfolding small
all_small [] = refl
all_small (n ∷ ns) = ap (λ b. leb n 15 && b) (all_small ns)
