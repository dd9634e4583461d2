-- That an index gives single tags orders of their own is a fact with at most one proof, so an `Index` can hold it.
use Rattle.std.specs.Prelude.{ℕ, List}
use mathlib.Core.HLevel.{Π_prop}
use native.Mathlib.Nat.{ℕ_set}
use Rattle.table_index.specs.internal.Cells.{OneOrder}

pub OneOrder-prop : (cells : List ℕ) → IsProp (OneOrder cells)
unfolding OneOrder
OneOrder-prop cells = Π_prop λ n. Π_prop λ t. Π_prop λ u. Π_prop λ _. Π_prop λ _. Π_prop λ _. ℕ_set t u
