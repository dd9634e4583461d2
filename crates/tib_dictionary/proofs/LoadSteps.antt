-- What one step of the loader does.
use Prim.Native.Nat.{ℕ, suc, ◌+◌, ◌≤◌}
use native.Mathlib.Omega.{arith}
use mathlib.Core.Path.{◌≡◌, refl}
use mathlib.Core.Bool.{true, false, ◌&&◌}
use mathlib.Core.List.{List, [], ◌∷◌, ◌++◌}
use lib.ListN.{length, drop}
use borrow.Author.Tests.{ne_eqb}
use Rattle.reading.specs.Reading.{accepted, refused, on_accepted}
use Rattle.reading.specs.Refusals as refusals
use Rattle.tib_dictionary.specs.Load.{formed, entry_of, continues, load_from}
use Rattle.tib_dictionary.specs.declared.Entry.{Entry}
use Rattle.tib_dictionary.proofs.Formed.{form}
use Rattle.octets.proofs.Bools.{and_left}

module _ (es : List Entry) (fuel at : ℕ) (s : List ℕ) where
  pub load_end : length s ≡ 0 → load_from es (suc fuel) at s ≡ accepted []
  unfolding load_from
  load_end h = rw h refl

  pub load_fault : 1 ≤ length s → formed s && continues es (entry_of s) ≡ false → load_from es (suc fuel) at s ≡ refused refusals.table at
  unfolding load_from
  load_fault h e = rw (ne_eqb (length s) 0 (omega arith), e) refl

  pub load_over : formed s && continues es (entry_of s) ≡ true
      → load_from es (suc fuel) at s ≡ on_accepted (λ (later : List Entry). entry_of s ∷ later) (load_from (es ++ (entry_of s ∷ [])) fuel (at + 8) (drop 8 s))
  unfolding load_from
  load_over e = rw (ne_eqb (length s) 0 (omega (arith, (form s (and_left (formed s) (continues es (entry_of s)) e)).whole)), e) refl
