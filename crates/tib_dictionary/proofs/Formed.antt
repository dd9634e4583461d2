-- What a record at the front of octets has.
use Prim.Native.Nat.{ℕ, ◌≤◌}
use mathlib.Core.Path.{◌≡◌}
use mathlib.Core.Bool.{true}
use mathlib.Core.List.{List}
use lib.ListN.{length, get_or}
use lib.Dec.{eqb, leb}
use borrow.Author.Tests.{eqb-true, leb-true}
use Rattle.octets.proofs.Bools.{and_four}
use Rattle.tib_dictionary.specs.Load.{formed}

pub record Form (s : List ℕ) : Type 0 where
  pub whole : 8 ≤ length s
  pub tag : get_or s 0 0 ≡ 2
  pub high : get_or s 1 0 ≡ 0
  pub low : get_or s 2 0 ≡ 5

pub form : (s : List ℕ) → formed s ≡ true → Form s
unfolding formed
form s e =
    let b = and_four (leb 8 (length s)) (eqb (get_or s 0 0) 2) (eqb (get_or s 1 0) 0) (eqb (get_or s 2 0) 5) e in
    record { whole = leb-true 8 (length s) b.0; tag = eqb-true (get_or s 0 0) 2 b.1; high = eqb-true (get_or s 1 0) 0 b.2; low = eqb-true (get_or s 2 0) 5 b.3 }
